-- The first row that is missing and the first field that is not permitted, in this order, decide conformity as the definition says.
-- Assumes nothing.
use Prim.Native.Nat.{ℕ, zero, suc, ◌+◌, ◌≤◌, ◌<◌}
use mathlib.Core.Bool.{Bool, true, false, cond, not, ◌&&◌, ◌||◌}
use mathlib.Core.List.{List, [], ◌∷◌}
use mathlib.Core.Path.{◌≡◌, refl, ap, ap₂, sym, ◌∙◌}
use native.Mathlib.Omega.{arith}
use native.Mathlib.Numerals.{add-one}
use lib.Dec.{ltb}
use borrow.Author.Tests.{ltb-true}
use Rattle.std.specs.Prelude.{Option, Some, None, position}
use Rattle.std.specs.List.{find, range_with_len, position_from}
use Rattle.std.proofs.lemmas.Iterator.Adapters.{position_from-zero}
use Rattle.refusal.specs.Answers.{Answer, good, refused, check, ◌>>◌, ◌>>=◌}
use Rattle.refusal.specs.Numbers.{type_not_covered, identifier_missing, identifier_not_permitted}
use Rattle.refusal.specs.Among.{among}
use Rattle.refusal.proofs.Binds.{left, right}
use Rattle.dictionary.specs.declared.Field.{Field}
use Rattle.dictionary.specs.Dictionary.{rows_of, find as find_identifier}
use Rattle.dictionary.specs.Rows.{rows, row_count}
use Rattle.conformity.specs.declared.Column.{Column}
use Rattle.conformity.specs.declared.Column.TheVariants.{Home00, Home01, Home02, SchoolB0, SchoolB1}
use Rattle.conformity.specs.Tables.{Exchange, Table, tables, row_of}
use Rattle.conformity.specs.Conformity.{column_of, mark_of, mandatory, permitted, every, replaced, there, complete, only_permitted, table_in, conforms}
use Rattle.conformity.specs.inner.Code.{column_number, column_says, table_of_column, is_lacking, is_barred, there_in}

abbrev said : (number : ℕ) → Option ℕ → Answer (Unit {0})
said k (Some place) = refused k place
said k None = good tt

-- what the code answers of a type that is covered
abbrev pub judged : (missing barred : Option ℕ) → Answer (Unit {0})
judged missing barred = said identifier_missing missing >> said identifier_not_permitted barred

first_of : (right : Bool) (k i : ℕ) (next : Option ℕ) → said k (cond (not right) (Some i) next) ≡ (check right k i >> said k next)
first_of true k i next = refl
first_of false k i next = refl

-- THE FIELDS: the first that is not permitted
permitted_from : (t : Table) (i : ℕ) (fs : List Field) → said identifier_not_permitted (position_from (is_barred t) i fs) ≡ only_permitted t i fs
unfolding only_permitted
permitted_from t i [] = refl
permitted_from t i (f ∷ fs) =
    first_of (permitted (mark_of t f.row)) identifier_not_permitted i (position_from (is_barred t) (i + 1) fs)
    ∙ ap (λ (x : Answer (Unit {0})). check (permitted (mark_of t f.row)) identifier_not_permitted i >> x)
    (ap (λ (n : ℕ). said identifier_not_permitted (position_from (is_barred t) n fs)) (add-one i) ∙ permitted_from t (suc i) fs)

-- the footnotes speak of rows
abbrev inside : List Exchange → Bool
inside [] = true
inside (x ∷ xs) = (every (λ n. ltb n row_count) x.one && every (λ n. ltb n row_count) x.other) && inside xs

columns_inside : (c : Column) → inside (table_of_column c).exchanges ≡ true
unfolding row_of find_identifier rows
columns_inside Home00 = refl
columns_inside Home01 = refl
columns_inside Home02 = refl
columns_inside SchoolB0 = refl
columns_inside SchoolB1 = refl

-- THE ROWS: two tests that agree on the rows
module _ (t : Table) (has named : ℕ → Bool) (same : (n : ℕ) → n < row_count → has n ≡ named n) where
  every_same : (l : List ℕ) → every (λ n. ltb n row_count) l ≡ true → every has l ≡ every named l
  every_same [] e = refl
  every_same (n ∷ l) e =
      let r : ltb n row_count ≡ true = left (ltb n row_count) (every (λ m. ltb m row_count) l) e in
      rw (same n (ltb-true n row_count r), every_same l (right (ltb n row_count) (every (λ m. ltb m row_count) l) e)) refl

  replaced_same : (xs : List Exchange) → inside xs ≡ true → (n : ℕ) → replaced has xs n ≡ replaced named xs n
  replaced_same [] e n = refl
  replaced_same (x ∷ xs) e n =
      let one = every (λ m. ltb m row_count) x.one in
      let other = every (λ m. ltb m row_count) x.other in
      let both : (one && other) ≡ true = left (one && other) (inside xs) e in
      rw (every_same x.one (left one other both), every_same x.other (right one other both), replaced_same xs (right (one && other) (inside xs) e) n) refl

  lacking : (m h r : Bool) → (m && not h && not r) ≡ not (not m || (h || r))
  lacking true true r = refl
  lacking true false r = refl
  lacking false h r = refl

  lacks : inside t.exchanges ≡ true → (n : ℕ) → n < row_count → is_lacking t has n ≡ not (not (mandatory (mark_of t n)) || there t named n)
  unfolding there
  lacks e n h = rw (same n h, replaced_same t.exchanges e n) (lacking (mandatory (mark_of t n)) (named n) (replaced named t.exchanges n))

  complete_from : inside t.exchanges ≡ true → (k n : ℕ) → n + k ≤ row_count → said identifier_missing (find (is_lacking t has) (range_with_len n k)) ≡ complete t named k n
  unfolding complete
  complete_from e zero n h = refl
  complete_from e (suc k) n h =
      let met = not (mandatory (mark_of t n)) || there t named n in
      let rest = find (is_lacking t has) (range_with_len (n + 1) k) in
      ap (λ (b : Bool). said identifier_missing (cond b (Some n) rest)) (lacks e n (omega arith))
      ∙ first_of met identifier_missing n rest
      ∙ ap (λ (x : Answer (Unit {0})). check met identifier_missing n >> x)
      (ap (λ (m : ℕ). said identifier_missing (find (is_lacking t has) (range_with_len m k))) (add-one n) ∙ complete_from e k (suc n) (omega arith))

pub not_covered : (a b : ℕ) (fs : List Field) → column_says None ≡ column_of a b → refused type_not_covered 0 ≡ conforms a b fs
unfolding conforms
not_covered a b fs e = rw (sym e) refl

in_tables : (c : Column) → table_in tables (column_number c) ≡ good (table_of_column c)
in_tables Home00 = refl
in_tables Home01 = refl
in_tables Home02 = refl
in_tables SchoolB0 = refl
in_tables SchoolB1 = refl

pub covered : (a b : ℕ) (c : Column) (fs : List Field) (seen : List Bool) → column_says (Some c) ≡ column_of a b
    → ((n : ℕ) → n < row_count → there_in seen n ≡ among n (rows_of fs))
    → judged (find (is_lacking (table_of_column c) (there_in seen)) (range_with_len 0 row_count)) (position (is_barred (table_of_column c)) fs) ≡ conforms a b fs
unfolding conforms
covered a b c fs seen e same =
    let t = table_of_column c in
    let named = λ (n : ℕ). among n (rows_of fs) in
    ap₂ (λ (x y : Answer (Unit {0})). x >> y)
    (complete_from t (there_in seen) named same (columns_inside c) row_count 0 (omega arith))
    (ap (said identifier_not_permitted) (position_from-zero (is_barred t) fs) ∙ permitted_from t 0 fs)
    ∙ ap (λ (x : Answer Table). x >>= λ u. complete u named row_count 0 >> only_permitted u 0 fs) (sym (ap (table_in tables) (sym e) ∙ in_tables c))
