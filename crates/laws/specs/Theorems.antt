-- What the theorems on texts say (document 01, "The text" and "What the promises say").
use Rattle.std.specs.Prelude.{ℕ, ◌+◌, ◌≤◌, List, [], ◌∷◌, ◌++◌, ◌≡◌, length}
use Rattle.refusal.specs.Answers.{Answer, good, refused}
use Rattle.refusal.specs.Limits.{most_fields}
use Rattle.dictionary.specs.Dictionary.{Dictionary, row_at}
use Rattle.dictionary.specs.declared.Row.{Row}
use Rattle.dictionary.specs.declared.Field.{Field}
use Rattle.header.specs.Header.{write_header}
use Rattle.text.specs.Signature.{write_signature}
use Rattle.text.specs.Text.{Received, data_of, ending, write_zone}

-- the place behind a field and its separator, if it has one
abbrev pub behind : Answer Row → (t : List ℕ) → Field → ℕ
behind (good r) t f = (f.start + f.length) + length (ending r (data_of t f) f.cut)
behind (refused k p) t f = 0

-- THE PLACES of fields that stand one behind the other: the data of the first start two behind the place p, those of each next two behind the
-- end of the one before, and behind the last is `end`
unfoldable pub Placed : Dictionary → (t : List ℕ) → (p : ℕ) → List Field → (end : ℕ) → Type 0
Placed d t p [] end = p ≡ end
Placed d t p (f ∷ fs) end = (f.start ≡ p + 2) × Placed d t (behind (row_at d f.row 0) t f) fs end

-- THE COVERING: an accepted text is exactly its header, its fields side by side in order with their separators, 31, its signature; the signed
-- part is header and zone
pub record Covering (d : Dictionary) (t : List ℕ) (x : Received) : Type 0 where
  pub header : List ℕ
  pub fields : List ℕ
  pub signature : List ℕ
  pub few : length x.message.fields ≤ most_fields
  pub header_is : write_header x.message.header ≡ good header
  pub fields_are : write_zone d t [] 0 x.message.fields ≡ good fields
  pub places : Placed d t (length header) x.message.fields x.signed
  pub signature_is : write_signature x.message.signature ≡ good signature
  pub whole : t ≡ header ++ (fields ++ (31 ∷ signature))
  pub signed : x.signed ≡ length (header ++ fields)
