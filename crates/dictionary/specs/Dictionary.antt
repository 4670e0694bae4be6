-- A dictionary: rows numbered from 0, each with an identifier, lengths and the characters of its data (document 01, "The text").
use Rattle.std.specs.Prelude.{ℕ, zero, suc, ◌+◌, ◌*◌, Bool, true, false, not, ◌&&◌, ◌||◌, Option, Some, None, List, [], ◌∷◌, map, ltb, eqb, length}
use Rattle.refusal.specs.Pick.{pick}
use Rattle.refusal.specs.Answers.{Answer, good, refused}
use Rattle.refusal.specs.Numbers.{unknown_identifier, bad_record}
use Rattle.dictionary.specs.declared.Kind.{Kind}
use Rattle.dictionary.specs.declared.Kind.TheVariants.{Numeric, Alphabetic, Alphanumeric}
use Rattle.dictionary.specs.declared.Row.{Row}
use Rattle.dictionary.specs.declared.Field.{Field}
use Rattle.refusal.specs.Classes.{between, digit, upper}

abbrev pub Dictionary : Type 0
Dictionary = List Row

-- the types Numérique, Alphabétique and Alphanumérique; a row of any other type is taken as the last (docs/ROWS.md)
abbrev pub in_kind : Kind → ℕ → Bool
in_kind Numeric c = digit c
in_kind Alphabetic c = upper c || eqb c 32
in_kind Alphanumeric c = between 32 95 c

-- MAY THE CHARACTER c STAND in a row's data, behind the data so far? The type decides.
unfoldable pub allowed : Row → (chars : List ℕ) → ℕ → Bool
allowed r chars c = in_kind r.kind c

abbrev pub is_greatest : Option ℕ → ℕ → Bool
is_greatest (Some n) m = eqb m n
is_greatest None m = false

-- fixed length: least equals greatest
abbrev pub fixed : Row → Bool
fixed r = is_greatest r.greatest r.least

-- the data have the greatest length
abbrev pub full : Row → List ℕ → Bool
full r chars = is_greatest r.greatest (length chars)

-- a row and its number
pub record Numbered : Type 0 where
  pub number : ℕ
  pub row : Row

-- the row with an identifier, the rows being numbered from k; refused at the place p where there is none
unfoldable pub find : (a b : ℕ) → (k p : ℕ) → Dictionary → Answer Numbered
find a b k p [] = refused unknown_identifier p
find a b k p (r ∷ d) = pick (eqb a r.first && eqb b r.second) (good (record { number = k; row = r })) (find a b (suc k) p d)

-- the row of a number; refused at the place i where there is none
unfoldable pub row_at : Dictionary → (number i : ℕ) → Answer Row
row_at [] n i = refused bad_record i
row_at (r ∷ d) zero i = good r
row_at (r ∷ d) (suc n) i = row_at d n i

-- each identifier is above the one before: they rise, digits before letters, so each stands once
abbrev pub rank : Row → ℕ
rank r = 256 * r.first + r.second

unfoldable pub rising : Dictionary → Bool
rising [] = true
rising (r ∷ []) = true
rising (r ∷ q ∷ d) = ltb (rank r) (rank q) && rising (q ∷ d)

-- the rows that fields name
abbrev pub rows_of : List Field → List ℕ
rows_of l = map (λ (f : Field). f.row) l

-- identifiers that are distinct
unfoldable pub listed : (a b : ℕ) → Dictionary → Bool
listed a b [] = false
listed a b (r ∷ d) = (eqb a r.first && eqb b r.second) || listed a b d

unfoldable pub distinct : Dictionary → Bool
distinct [] = true
distinct (r ∷ d) = not (listed r.first r.second d) && distinct d
