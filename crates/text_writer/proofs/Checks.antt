-- The checks of a record: characters that stand in turn, and the row that repeats one of those before.
-- Assumes nothing.
use Rattle.std.proofs.Common.{ℕ, true, ◌&&◌, ◌≡◌, ◌+◌, ◌≤◌, ◌<◌, List, [], ◌∷◌, length, get_or, take, drop, drop-cons, add-one, refl, ◌==◌}
use Rattle.std.proofs.Math.ListN.{drop_of_length-le}
use Rattle.std.proofs.Math.Seq.{take-suc}
use Rattle.std.specs.List.{list_any}
use Rattle.refusal.specs.Among.{among}
use Rattle.dictionary.specs.Dictionary.{allowed, rows_of}
use Rattle.dictionary.specs.declared.Field.{Field}
use Rattle.dictionary.specs.declared.Row.{Row}
use Rattle.text.specs.Text.{in_turn}

module _ (row : Row) (l : List ℕ) where
  pub turn : (i : ℕ) → i < length l → in_turn row (take i l) (drop i l) ≡ (allowed row (take i l) (get_or l i 0) && in_turn row (take (i + 1) l) (drop (i + 1) l))
  unfolding in_turn
  turn i h = rw (drop-cons l i 0 h, add-one i, take-suc l i 0 h)

  pub turn_end : (i : ℕ) → length l ≤ i → in_turn row (take i l) (drop i l) ≡ true
  unfolding in_turn
  turn_end i h = rw (drop_of_length-le l {i = i} h)

-- the library's search for a record of a row
pub any_row : (n : ℕ) (l : List Field) → among n (rows_of l) ≡ list_any (λ f. n == f.row) l
unfolding among
any_row n [] = refl
any_row n (f ∷ l) = rw (any_row n l)
