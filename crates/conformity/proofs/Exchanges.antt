-- The footnotes exchange mandatory rows only, in every column of the tables: each of them is looked up and computed.
use Rattle.std.proofs.Common.{ℕ, Bool, true, ◌&&◌, ◌≡◌, List, [], ◌∷◌, refl}
use Rattle.dictionary.specs.Dictionary.{find}
use Rattle.dictionary.specs.Rows.{rows}
use Rattle.conformity.specs.declared.Column.{Column}
use Rattle.conformity.specs.declared.Column.TheVariants.{Home00, Home01, Home02, SchoolB0, SchoolB1}
use Rattle.conformity.specs.Tables.{Table, Exchange, domicile, academic, row_of}
use Rattle.conformity.specs.Conformity.{mark_of, mandatory}
use Rattle.conformity.specs.inner.Code.{table_of_column}

abbrev asked : Table → List ℕ → Bool
asked t [] = true
asked t (m ∷ ms) = mandatory (mark_of t m) && asked t ms

abbrev all_asked : Table → List Exchange → Bool
all_asked t [] = true
all_asked t (x ∷ xs) = (asked t x.one && asked t x.other) && all_asked t xs

pub exchanges_asked : (c : Column) → all_asked (table_of_column c) (table_of_column c).exchanges ≡ true
unfolding mark_of domicile academic row_of find rows
exchanges_asked Home00 = refl
exchanges_asked Home01 = refl
exchanges_asked Home02 = refl
exchanges_asked SchoolB0 = refl
exchanges_asked SchoolB1 = refl
