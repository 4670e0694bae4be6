-- The message zone (document 01, "The text"), read field by field from the left.
use Rattle.std.specs.Prelude.{ℕ, zero, suc, ◌+◌, Bool, true, false, not, List, [], ◌∷◌, ◌++◌, leb, eqb, length}
use Rattle.refusal.specs.Pick.{pick}
use Rattle.refusal.specs.Answers.{Answer, good, refused, ◌>>=◌, ◌>>◌, check}
use Rattle.refusal.specs.Numbers.{zone_ends_inside, wrong_character, data_too_short, identifier_repeated, too_many_fields}
use Rattle.refusal.specs.Among.{among}
use Rattle.dictionary.specs.Dictionary.{Dictionary, allowed, fixed, full, find, rows_of}
use Rattle.dictionary.specs.declared.Row.{Row}
use Rattle.dictionary.specs.declared.Field.{Field}
use Rattle.text.specs.declared.Does.{Does}
use Rattle.text.specs.declared.Does.TheVariants.{More, Ends, Cuts, Follows, Wrong}

-- what a character does behind the data so far: more data; a 29 ends them; a 30 cuts them; they are whole and it starts the next field; it may not stand there
unfoldable pub does : Row → (chars : List ℕ) → ℕ → Does
does r chars c =
    pick (full r chars) (pick (fixed r) Follows (pick (eqb c 30) Cuts Follows))
    (pick (fixed r) (pick (allowed r chars c) More Wrong)
    (pick (eqb c 29) Ends
    (pick (eqb c 30) Cuts
    (pick (allowed r chars c) More Wrong))))

-- data that were read: whether they are cut, the place behind them and their separator, and the characters from there on
pub record Piece : Type 0 where
  pub chars : List ℕ
  pub cut : Bool
  pub next : ℕ
  pub rest : List ℕ

abbrev pub on_does : Does → (chars : List ℕ) → (c p : ℕ) → (l : List ℕ) → Answer Piece → Answer Piece
on_does More chars c p l on = on
on_does Ends chars c p l on = good (record { chars = chars; cut = false; next = suc p; rest = l })
on_does Cuts chars c p l on = good (record { chars = chars; cut = true; next = suc p; rest = l })
on_does Follows chars c p l on = good (record { chars = chars; cut = false; next = p; rest = c ∷ l })
on_does Wrong chars c p l on = refused wrong_character p

-- the data of the row r, whose identifier stands at the place `at`; p is the place of the first character left
unfoldable pub read_data : Row → (at : ℕ) → (chars : List ℕ) → (p : ℕ) → List ℕ → Answer Piece
read_data r at chars p [] = pick (full r chars) (good (record { chars = chars; cut = false; next = p; rest = [] })) (refused zone_ends_inside at)
read_data r at chars p (c ∷ l) = on_does (does r chars c) chars c p l (read_data r at (chars ++ (c ∷ [])) (suc p) l)

-- the identifier at the front: none at the end, 17 for half of one
abbrev pub identifier : {A : Type 0} → (p : ℕ) → List ℕ → Answer A → ((a b : ℕ) → List ℕ → Answer A) → Answer A
identifier p [] none some = none
identifier p (c ∷ []) none some = refused zone_ends_inside p
identifier p (a ∷ b ∷ l) none some = some a b l

-- THE FIELDS of a zone, which may have none, behind those before it, in the order in which they stand, whatever it is; no identifier twice.
-- p is the place of the first character left, and `room` more fields are allowed
unfoldable pub zone : Dictionary → (room : ℕ) → (before : List Field) → (p : ℕ) → List ℕ → Answer (List Field)
zone d zero before p l = identifier p l (good before) λ a b l. do
  n ← find a b 0 p d
  check (not (among n.number (rows_of before))) identifier_repeated p
  refused too_many_fields p
zone d (suc room) before p l = identifier p l (good before) λ a b l. do
  n ← find a b 0 p d
  check (not (among n.number (rows_of before))) identifier_repeated p
  x ← read_data n.row p [] (p + 2) l
  check (leb n.row.least (length x.chars)) data_too_short p
  zone d room (before ++ (record { row = n.number; start = p + 2; length = length x.chars; cut = x.cut } ∷ [])) x.next x.rest
