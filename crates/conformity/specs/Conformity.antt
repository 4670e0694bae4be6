-- Conformity of a message's fields to the table of its type (document 01, "Conformity").
use Rattle.std.specs.declared.result.Result.{Result}
use Rattle.std.specs.Prelude.{ℕ, zero, suc, Bool, true, false, not, ◌&&◌, ◌||◌, List, [], ◌∷◌, ◌≡◌, ltb, eqb, get_or}
use Rattle.refusal.specs.Pick.{pick}
use Rattle.refusal.specs.Answers.{Answer, good, refused, ◌>>◌, ◌>>=◌, check}
use Rattle.refusal.specs.Numbers.{type_not_covered, identifier_missing, identifier_not_permitted}
use Rattle.refusal.specs.declared.Refusal.{Refusal}
use Rattle.refusal.specs.Said.{says}
use Rattle.refusal.specs.Among.{among}
use Rattle.dictionary.specs.declared.Field.{Field}
use Rattle.dictionary.specs.Dictionary.{rows_of}
use Rattle.dictionary.specs.Rows.{row_count}
use Rattle.conformity.specs.Tables.{Mark, O, F, no, Line, Exchange, Section, Table, tables}
use Rattle.refusal.specs.Classes.{between}

-- the types covered, numbered: 00, 01, 02, B0, B1; 5 for any other
unfoldable pub column_of : (type0 type1 : ℕ) → ℕ
column_of a b =
    pick (eqb a 48) (pick (eqb b 48) 0 (pick (eqb b 49) 1 (pick (eqb b 50) 2 5)))
    (pick (eqb a 66) (pick (eqb b 48) 3 (pick (eqb b 49) 4 5)) 5)

-- the table of a type; 28 for a type that is not covered
abbrev pub table_in : List Table → (column : ℕ) → Answer Table
table_in [] k = refused type_not_covered 0
table_in (t ∷ ts) zero = good t
table_in (t ∷ ts) (suc k) = table_in ts k

abbrev pub table_of : (type0 type1 : ℕ) → Answer Table
table_of a b = table_in tables (column_of a b)

abbrev in_section : List Section → ℕ → Bool
in_section [] n = false
in_section (s ∷ ss) n = between s.first s.last n || in_section ss n

-- the mark of a row: the table's, or optional in a section that the table names, or else not permitted
abbrev in_lines : List Line → (column : ℕ) → Mark → ℕ → Mark
in_lines [] k other n = other
in_lines (l ∷ ls) k other n = pick (eqb n l.row) (get_or l.marks k no) (in_lines ls k other n)

-- what is no row is not permitted
unfoldable pub mark_of : Table → ℕ → Mark
mark_of t n = pick (ltb n row_count) (in_lines t.lines t.column (pick (in_section t.optional n) F no) n) no

abbrev pub mandatory : Mark → Bool
mandatory O = true
mandatory F = false
mandatory no = false

abbrev pub permitted : Mark → Bool
permitted O = true
permitted F = true
permitted no = false

abbrev pub every : (ℕ → Bool) → List ℕ → Bool
every has [] = true
every has (m ∷ ms) = has m && every has ms

-- a footnote exchanges the row for others, and they are all there
abbrev pub replaced : (has : ℕ → Bool) → List Exchange → ℕ → Bool
replaced has [] n = false
replaced has (x ∷ xs) n = ((among n x.one && every has x.other) || (among n x.other && every has x.one)) || replaced has xs n

unfoldable pub there : Table → (has : ℕ → Bool) → ℕ → Bool
there t has n = has n || replaced has t.exchanges n

-- every mandatory row is there, or what it is exchanged for: from the row n on, so many rows; 29 names the least that is missing
unfoldable pub complete : Table → (has : ℕ → Bool) → (left n : ℕ) → Answer (Unit {0})
complete t has zero n = good tt
complete t has (suc left) n = do
  check (not (mandatory (mark_of t n)) || there t has n) identifier_missing n
  complete t has left (suc n)

-- no field has a row that is not permitted; 30 at the first. A row that stands twice is no fault here
unfoldable pub only_permitted : Table → (i : ℕ) → List Field → Answer (Unit {0})
only_permitted t i [] = good tt
only_permitted t i (f ∷ fs) = do
  check (permitted (mark_of t f.row)) identifier_not_permitted i
  only_permitted t (suc i) fs

-- CONFORMITY of fields to a type: 28, then 29, then 30
unfoldable pub conforms : (type0 type1 : ℕ) → List Field → Answer (Unit {0})
conforms a b fs = do
  t ← table_of a b
  complete t (λ n. among n (rows_of fs)) row_count 0
  only_permitted t 0 fs

-- WHAT `conforms` PROMISES of the fields that it is given
abbrev pub ConformityPromised : (type0 type1 : ℕ) → List Field → Result (Unit {0}) Refusal → Type 0
ConformityPromised a b fs r = says r ≡ conforms a b fs
