-- WHAT WRITING A SYMBOL PROMISES, in document 01's words and order: of any codewords that read as the text the best, or a refusal.
use Rattle.std.specs.declared.result.Result.{Result}
use Rattle.std.specs.Prelude.{ℕ, ◌≤◌, ◌<◌, Bool, not, ◌||◌, List, ◌++◌, ◌⊎◌, ◌≡◌, ltb, length, drop, Ok, Err}
use Rattle.refusal.specs.Limits.{limit}
use Rattle.refusal.specs.Answers.{refused}
use Rattle.refusal.specs.declared.Refusal.{Refusal}
use Rattle.refusal.specs.Said.{says}
use Rattle.refusal.specs.Pick.{pick}
use Rattle.refusal.specs.Numbers.{text_too_long, lent_too_short, character_above_127, largest_no_capacity, no_size_fits}
use Rattle.codeword.specs.Sizes.{is_capacity}
use Rattle.codeword.specs.Best.{used, Best, NoneFits}
use Rattle.symbol_writer.specs.declared.SymbolWritten.{SymbolWritten}
use Rattle.symbol_writer.specs.Rows.{work_room}
use Rattle.symbol_writer.specs.Symbol.{first_above, zeros}

-- the symbol ws stands at the front of the output, with its capacity and the codewords before its padding beside it
pub record Stands (t : List ℕ) (largest : ℕ) (old new : List ℕ) (capacity n : ℕ) : Type 0 where
  pub ws : List ℕ
  pub best : Best t largest ws
  pub size : capacity ≡ length ws
  pub count : n ≡ used ws
  pub room : length ws ≤ length old
  pub output : new ≡ ws ++ drop (length ws) old

-- 6: the output is shorter than the symbol chosen
pub record TooShort (t : List ℕ) (largest : ℕ) (old : List ℕ) : Type 0 where
  pub ws : List ℕ
  pub best : Best t largest ws
  pub short : length old < length ws

-- the answer is a refusal, and leaves the output
abbrev Refuses : (number place : ℕ) (old new : List ℕ) → Result SymbolWritten Refusal → Type 0
Refuses k p old new r = (says r ≡ refused k p) × (new ≡ old)

-- where nothing was refused before the size was chosen
abbrev pub Chosen : (t : List ℕ) (largest : ℕ) (old new : List ℕ) → Result SymbolWritten Refusal → Type 0
Chosen t largest old new (Ok w) = Stands t largest old new w.capacity w.used
Chosen t largest old new (Err x) =
    (Refuses no_size_fits 0 old new (Err x) × NoneFits t largest) ⊎ (Refuses lent_too_short 0 old new (Err x) × TooShort t largest old)

-- Order: 5, 7 at the first, 8, 6 for the work slice, 9, 6 for an output shorter than the symbol chosen. A refusal leaves the output.
unfoldable pub Promised : (t : List ℕ) (largest work : ℕ) (old new : List ℕ) → Result SymbolWritten Refusal → Type 0
Promised t largest work old new r =
    pick (ltb limit (length t)) (Refuses text_too_long 0 old new r)
    (pick (ltb (first_above t) (length t)) (Refuses character_above_127 (first_above t) old new r)
    (pick (is_capacity largest)
    (pick (ltb work work_room) (Refuses lent_too_short 0 old new r) (Chosen t largest old new r))
    (Refuses largest_no_capacity 0 old new r)))

-- 5, 7, 8, and 6 for the work slice
abbrev pub refused_early : (t : List ℕ) (largest work : ℕ) → Bool
refused_early t largest work = ltb limit (length t) || (ltb (first_above t) (length t) || (not (is_capacity largest) || ltb work work_room))

-- Its first 8,192 entries are zero on return and the others untouched. When it is too short, or the refusal is 5, 7 or 8, all of it
-- is untouched.
abbrev pub work_left : (t : List ℕ) (largest : ℕ) (old : List ℕ) → List ℕ
work_left t largest old = pick (refused_early t largest (length old)) old (zeros work_room ++ drop work_room old)
