-- The code's table gives each row's mark in each column.
-- Assumes nothing.
use Prim.Native.Nat.{ℕ, zero, suc, ◌+◌, ◌≤◌}
use mathlib.Core.List.{List, map}
use mathlib.Core.Bool.{false}
use mathlib.Core.Path.{◌≡◌, refl, ap, sym, ◌∙◌}
use native.Mathlib.Omega.{arith}
use lib.Dec.{ltb}
use lib.ListN.{get_or-map}
use borrow.Author.Tests.{le-ltb}
use Rattle.std.specs.Option.{option_map}
use Rattle.std.specs.Prelude.{Option, Some, None, slice_get, get_or}
use Rattle.std.proofs.lemmas.Option.{none-some, same_Some, slice_get-map}
use Rattle.dictionary.specs.Rows.{row_count}
use Rattle.conformity.specs.declared.Column.{Column}
use Rattle.conformity.specs.declared.Column.TheVariants.{Home00, Home01, Home02, SchoolB0, SchoolB1}
use Rattle.conformity.specs.declared.Mark.{Mark as CodeMark}
use Rattle.conformity.specs.declared.Mark.TheVariants.{NotPermitted}
use Rattle.conformity.specs.Tables.{Mark, no, Table, tables}
use Rattle.conformity.specs.Conformity.{mark_of}
use Rattle.conformity.specs.inner.Code.{column_number, table_of_column, mark_says, marks_of}

abbrev row_marks : (n : ℕ) → List Mark
row_marks n = map (λ (t : Table). mark_of t n) tables

in_column : (c : Column) (n : ℕ) → get_or (row_marks n) (column_number c) no ≡ mark_of (table_of_column c) n
in_column Home00 n = refl
in_column Home01 n = refl
in_column Home02 n = refl
in_column SchoolB0 n = refl
in_column SchoolB1 n = refl

row_there : (left k n m : ℕ) (ms : List Mark) → m ≡ k + n → slice_get (marks_of left k) n ≡ Some ms → ms ≡ row_marks m
unfolding marks_of
row_there zero k n m ms h e = absurd (none-some ms e)
row_there (suc left) k zero m ms h e = sym (same_Some (row_marks k) ms e) ∙ ap row_marks (omega arith)
row_there (suc left) k (suc n) m ms h e = row_there left (suc k) n m ms (omega arith) e

row_past : (left k n : ℕ) → slice_get (marks_of left k) n ≡ None → left ≤ n
unfolding marks_of
row_past zero k n e = omega arith
row_past (suc left) k zero e = absurd (none-some (row_marks k) (sym e))
row_past (suc left) k (suc n) e = omega (arith, row_past left (suc k) n e)

module _ (xs : List (List CodeMark)) (right : map (map mark_says) xs ≡ marks_of row_count 0) (c : Column) (n : ℕ) where
  got : (o : Option (List CodeMark)) → slice_get xs n ≡ o → slice_get (marks_of row_count 0) n ≡ option_map (map mark_says) o
  got o e = ap (λ (l : List (List Mark)). slice_get l n) (sym right) ∙ slice_get-map (map mark_says) xs n ∙ ap (option_map (map mark_says)) e

  pub mark_there : (ms : List CodeMark) → slice_get xs n ≡ Some ms → mark_says (get_or ms (column_number c) NotPermitted) ≡ mark_of (table_of_column c) n
  mark_there ms e =
      sym (get_or-map mark_says ms (column_number c) NotPermitted)
      ∙ ap (λ (l : List Mark). get_or l (column_number c) no) (row_there row_count 0 n n (map mark_says ms) (omega arith) (got (Some ms) e))
      ∙ in_column c n

  pub mark_past : slice_get xs n ≡ None → no ≡ mark_of (table_of_column c) n
  unfolding mark_of
  mark_past e = let past : ltb n row_count ≡ false = le-ltb n row_count (row_past row_count 0 n (got None e)) in rw past refl
