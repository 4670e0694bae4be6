-- The code's columns and marks in the words of the definitions, and its tests of a row and of a field.
use Rattle.std.specs.Prelude.{ℕ, zero, suc, Bool, false, not, ◌&&◌, Option, Some, None, List, [], ◌∷◌, map, get_or}
use Rattle.dictionary.specs.declared.Field.{Field}
use Rattle.conformity.specs.declared.Column.{Column}
use Rattle.conformity.specs.declared.Column.TheVariants.{Home00, Home01, Home02, SchoolB0, SchoolB1}
use Rattle.conformity.specs.declared.Mark.{Mark as CodeMark}
use Rattle.conformity.specs.declared.Mark.TheVariants.{NotPermitted, Permitted, Mandatory}
use Rattle.conformity.specs.Tables.{Mark, O, F, no, Table, home, school, footnote_6, tables}
use Rattle.conformity.specs.Conformity.{mark_of, mandatory, permitted, replaced}

-- the number of a column
abbrev pub column_number : Column → ℕ
column_number Home00 = 0
column_number Home01 = 1
column_number Home02 = 2
column_number SchoolB0 = 3
column_number SchoolB1 = 4

abbrev pub column_says : Option Column → ℕ
column_says (Some c) = column_number c
column_says None = 5

-- the table of a column
abbrev pub table_of_column : Column → Table
table_of_column Home00 = home 0
table_of_column Home01 = home 1
table_of_column Home02 = home 2
table_of_column SchoolB0 = school 0 (footnote_6 ∷ [])
table_of_column SchoolB1 = school 1 []

abbrev pub mark_says : CodeMark → Mark
mark_says NotPermitted = no
mark_says Permitted = F
mark_says Mandatory = O

-- the marks in every column, from the row n on, so many rows
unfoldable pub marks_of : (left n : ℕ) → List (List Mark)
marks_of zero n = []
marks_of (suc left) n = map (λ (t : Table). mark_of t n) tables ∷ marks_of left (suc n)

-- is a row there, by the code's list of the rows?
abbrev pub there_in : List Bool → ℕ → Bool
there_in rows n = get_or rows n false

-- is a row missing that the table makes mandatory?
abbrev pub is_lacking : Table → (has : ℕ → Bool) → ℕ → Bool
is_lacking t has n = mandatory (mark_of t n) && not (has n) && not (replaced has t.exchanges n)

-- is a field's row not permitted?
abbrev pub is_barred : Table → Field → Bool
is_barred t f = not (permitted (mark_of t f.row))
