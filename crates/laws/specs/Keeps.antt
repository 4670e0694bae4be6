-- NEW ROWS DO NOT DISTURB OLD READINGS: what that says of two dictionaries, the second of which holds every row of the first. A row may
-- stand at another number in the second, so fields are compared by the rows they name, identifier and all, and never by number.
use Rattle.std.specs.Prelude.{ℕ, true, List, [], ◌∷◌, ◌≡◌}
use Rattle.refusal.specs.Answers as Answers
use Rattle.refusal.specs.Answers.{Answer, good}
use Rattle.refusal.specs.Numbers.{unknown_identifier}
use Rattle.dictionary.specs.Dictionary.{Dictionary, row_at, distinct}
use Rattle.dictionary.specs.declared.Row.{Row}
use Rattle.dictionary.specs.declared.Field.{Field}
use Rattle.text.specs.Text.{Received, read_text}

-- the row with the number n is r
abbrev pub Names : Dictionary → (n : ℕ) → Row → Type 0
Names d n r = row_at d n 0 ≡ good r

-- the row r, identifier, lengths and characters, stands in the dictionary, at whatever number
abbrev pub Holds : Dictionary → Row → Type 0
Holds d r = (n : ℕ) × Names d n r

-- every row of the first dictionary stands in the second, unchanged
pub record Extends (d e : Dictionary) : Type 0 where
  pub holds : (r : Row) → Holds d r → Holds e r

-- two fields name one row, each in its dictionary, so they have the same identifier; and they are the same part of the text
pub record SameField (d e : Dictionary) (f g : Field) : Type 0 where
  pub row : Row
  pub first : Names d f.row row
  pub second : Names e g.row row
  pub start : f.start ≡ g.start
  pub length : f.length ≡ g.length
  pub cut : f.cut ≡ g.cut

-- as many fields, each the same as the other's in its turn
abbrev pub SameFields : Dictionary → Dictionary → List Field → List Field → Type 0
SameFields d e [] [] = Unit {0}
SameFields d e [] (g ∷ gs) = ⊥
SameFields d e (f ∷ fs) [] = ⊥
SameFields d e (f ∷ fs) (g ∷ gs) = SameField d e f g × SameFields d e fs gs

-- the same header, fields and signature, and a signed part of the same length
pub record SameReading (d e : Dictionary) (x y : Received) : Type 0 where
  pub header : x.message.header ≡ y.message.header
  pub fields : SameFields d e x.message.fields y.message.fields
  pub signature : x.message.signature ≡ y.message.signature
  pub signed : x.signed ≡ y.signed

-- A READING THAT STILL STANDS: what was accepted under d is accepted under e as the same; what was refused is refused with the same number
-- at the same place, unless an identifier was unknown
pub record Stands (d e : Dictionary) (old new : Answer Received) : Type 0 where
  pub accepted : (x : Received) → old ≡ good x → (y : Received) × (new ≡ good y) × SameReading d e x y
  pub refused : (k p : ℕ) → old ≡ Answers.refused k p → (k ≡ unknown_identifier → ⊥) → new ≡ Answers.refused k p

-- of every text, into any lent list
abbrev pub Keeps : Dictionary → Dictionary → Type 0
Keeps d e = (room : ℕ) (t : List ℕ) → Stands d e (read_text d room t) (read_text e room t)

-- THE STATEMENT (document 02, K10), for any two dictionaries, each with distinct identifiers
abbrev pub NewRowsKeep : Type 0
NewRowsKeep = (d e : Dictionary) → distinct d ≡ true → distinct e ≡ true → Extends d e → Keeps d e
