-- What writing a symbol answers and leaves in the lent slices: document 01, "From text to codewords" and "Numbers that come back".
use Rattle.std.specs.declared.result.Result.{Result}
use Rattle.std.specs.Prelude.{ℕ, suc, ◌-◌, List, [], ◌∷◌, ◌++◌, ◌≡◌, ltb, length, drop, replicate}
use Rattle.refusal.specs.Pick.{pick}
use Rattle.refusal.specs.Numbers.{text_too_long, lent_too_short, character_above_127, largest_no_capacity, no_size_fits}
use Rattle.refusal.specs.Limits.{limit}
use Rattle.refusal.specs.Answers as answers
use Rattle.refusal.specs.declared.Refusal.{Refusal}
use Rattle.refusal.specs.Said.{says}
use Rattle.codeword.specs.Sizes.{capacities, is_capacity}
use Rattle.codeword.specs.Reading.{in_ascii}
use Rattle.optimum.specs.Write.{Choice, at, nothing, write, choose, padding}
use Rattle.symbol_writer.specs.declared.SymbolWritten.{SymbolWritten}
use Rattle.symbol_writer.specs.Rows.{work_room}

-- a symbol with its capacity and the codewords before its pads; a refusal before the work slice is used, and one after
pub data Answer : Type 0 where
  written : (capacity used : ℕ) (symbol : List ℕ) → Answer
  refused : (number place : ℕ) → Answer
  cleared : (number place : ℕ) → Answer

-- the place of the first character above 127, or the length
unfoldable pub first_above : List ℕ → ℕ
first_above [] = 0
first_above (c ∷ t) = pick (ltb 127 c) 0 (suc (first_above t))

-- codewords, with pads up to the capacity
abbrev pub with_pads : (capacity : ℕ) → List ℕ → List ℕ
with_pads c ws = ws ++ padding (length ws) (length ws) (c - length ws)

-- the size that was chosen: 9 when there is none, 6 for an output shorter than the symbol
abbrev pub in_size : (room : ℕ) → List ℕ → Choice → Answer
in_size room t (at c n b) =
    pick (ltb room c) (cleared lent_too_short 0) (written c (length (write b n in_ascii t)) (with_pads c (write b n in_ascii t)))
in_size room t nothing = cleared no_size_fits 0

-- THE SYMBOL OF A TEXT, or the first refusal that holds. Order: 5, 7 at the first, 8, 6 for the work slice, 9, 6 for the output.
unfoldable pub write_symbol : (t : List ℕ) (largest work room : ℕ) → Answer
write_symbol t largest work room =
    pick (ltb limit (length t)) (refused text_too_long 0)
    (pick (ltb (first_above t) (length t)) (refused character_above_127 (first_above t))
    (pick (is_capacity largest)
    (pick (ltb work work_room) (refused lent_too_short 0) (in_size room t (choose capacities largest t)))
    (refused largest_no_capacity 0)))

abbrev pub answered : Answer → answers.Answer SymbolWritten
answered (written c n s) = answers.good (record { capacity = c; used = n })
answered (refused k p) = answers.refused k p
answered (cleared k p) = answers.refused k p

-- Beyond the symbol, the output is untouched; a refusal leaves it all.
abbrev pub symbol_after : Answer → List ℕ → List ℕ
symbol_after (written c n s) old = s ++ drop (length s) old
symbol_after (refused k p) old = old
symbol_after (cleared k p) old = old

unfoldable pub zeros : ℕ → List ℕ
zeros n = replicate n 0

-- Its first 8,192 entries are zero on return and the others untouched. When it is too short, or the refusal is 5, 7 or 8, all of it
-- is untouched.
abbrev pub work_after : Answer → List ℕ → List ℕ
work_after (written c n s) old = zeros work_room ++ drop work_room old
work_after (refused k p) old = old
work_after (cleared k p) old = zeros work_room ++ drop work_room old

-- the codewords ws and their pads are put, and the work slice is kept beyond its first entries
pub record PutSymbol (ws : List ℕ) (capacity : ℕ) (old new work work' : List ℕ) (done : ℕ) : Type 0 where
  pub count : done ≡ length ws
  pub is : new ≡ with_pads capacity ws ++ drop capacity old
  pub size : length (with_pads capacity ws) ≡ capacity
  pub long : length work' ≡ length work
  pub rest : drop work_room work' ≡ drop work_room work

pub record Within (x : Answer) (old new work work' : List ℕ) (r : Result SymbolWritten Refusal) : Type 0 where
  pub answer : says r ≡ answered x
  pub output : new ≡ symbol_after x old
  pub long : length work' ≡ length work
  pub rest : drop work_room work' ≡ drop work_room work
