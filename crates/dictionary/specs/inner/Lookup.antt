-- What the code's answers say, and the place where it looks for an identifier.
use Rattle.std.specs.Prelude.{ℕ, ◌+◌, ◌-◌, Bool, true, false, ◌&&◌, Option, Some, None, List, [], ◌∷◌, eqb, leb, take, drop}
use Rattle.refusal.specs.Pick.{pick}
use Rattle.refusal.specs.Classes.{between}
use Rattle.refusal.specs.Answers.{Answer, good, refused}
use Rattle.refusal.specs.Numbers.{unknown_identifier, bad_record}
use Rattle.dictionary.specs.declared.Row.{Row}
use Rattle.dictionary.specs.declared.Field.{Field}
use Rattle.dictionary.specs.Dictionary.{Dictionary, Numbered}

-- the n characters of a text that start at `start`
abbrev pub so_far : List ℕ → (start n : ℕ) → List ℕ
so_far text start n = take n (drop start text)

-- the answer of the search, for an identifier that stands at the place p
abbrev pub found_says : Option (ℕ × Row) → (p : ℕ) → Answer Numbered
found_says (Some x) p = good (record { number = x.0; row = x.1 })
found_says None p = refused unknown_identifier p

-- the row of a number, for the record at the place i
abbrev pub row_found_says : Option Row → (i : ℕ) → Answer Row
row_found_says (Some r) i = good r
row_found_says None i = refused bad_record i

-- A section's identifiers leave none out, so the row of ab, if there is one, is the section's first row and as many more as b says:
-- the digits 0 to 9, and then the letters from 10.
abbrev pub digit_of : ℕ → Option ℕ
digit_of b = pick (between 48 57 b) (Some (b - 48)) (pick (between 65 90 b) (Some ((b - 65) + 10)) None)

-- the first section begins with 01
abbrev pub from_01 : ℕ → Option ℕ
from_01 n = pick (eqb n 0) None (Some (n - 1))

abbrev pub place_in : (a : ℕ) → Option ℕ → Option ℕ
place_in a None = None
place_in a (Some n) =
    pick (eqb a 48) (from_01 n) (
    pick (eqb a 49) (Some (13 + n)) (
    pick (eqb a 50) (Some (39 + n)) (
    pick (eqb a 54) (Some (53 + n)) (
    pick (eqb a 66) (Some (89 + n)) None))))

unfoldable pub place_of : (a b : ℕ) → Option ℕ
place_of a b = place_in a (digit_of b)

-- no identifier holds a separator
unfoldable pub plain : Dictionary → Bool
plain [] = true
plain (r ∷ d) = (leb 32 r.first && leb 32 r.second) && plain d

-- a record of zeros: what stands where there is no field
abbrev pub no_field : Field
no_field = record { row = 0; cut = false; start = 0; length = 0 }
