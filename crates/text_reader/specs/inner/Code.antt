-- What the answers of the code's functions say, by the definitions.
use Rattle.std.specs.Prelude.{ℕ, suc, ◌+◌, ◌-◌, ◌<◌, Bool, false, List, [], ◌∷◌, ◌++◌, ◌≡◌, length, drop, get_or}
use Rattle.std.specs.declared.result.Result.{Result}
use Rattle.refusal.specs.Answers.{Answer, good, ◌>>=◌}
use Rattle.refusal.specs.Limits.{most_fields}
use Rattle.refusal.specs.Among.{among}
use Rattle.refusal.specs.Said.{says}
use Rattle.refusal.specs.declared.Refusal.{Refusal}
use Rattle.dictionary.specs.Dictionary.{rows_of}
use Rattle.dictionary.specs.Rows.{rows, row_count}
use Rattle.dictionary.specs.inner.Lookup.{so_far}
use Rattle.dictionary.specs.declared.Field.{Field}
use Rattle.header.specs.declared.HeaderRead.{HeaderRead}
use Rattle.header.specs.Header.{size}
use Rattle.text.specs.Zone.{Piece, zone}
use Rattle.text.specs.Signature.{read_signature}
use Rattle.text.specs.Text.{Received}
use Rattle.text_reader.specs.declared.DataRead.{DataRead}
use Rattle.text_reader.specs.declared.FieldRead.{FieldRead}

-- the data of a field that starts at `start`, in a text that ends with the zone
abbrev pub piece_of : List ℕ → (start : ℕ) → DataRead → Piece
piece_of text start x = record { chars = so_far text start x.length; cut = x.cut; next = x.next; rest = drop x.next text }

-- the rows that the fields take are those that are marked
abbrev pub Marks : List Bool → List Field → Type 0
Marks used fields = (n : ℕ) → n < row_count → get_or used n false ≡ among n (rows_of fields)

-- a field behind others, and what reading on behind it answers
abbrev pub with_rest : List ℕ → (fields : List Field) → Result FieldRead Refusal → Answer (List Field)
with_rest text fields r = says r >>= λ x. zone rows (most_fields - suc (length fields)) (fields ++ (x.field ∷ [])) x.next (drop x.next text)

-- what is left of reading a text behind its header: the characters of the zone, and those behind the mark
abbrev pub behind : HeaderRead → (zone_chars rest : List ℕ) → Answer Received
behind x zone_chars rest = do
  fields ← zone rows most_fields [] (size x.version) zone_chars
  signature ← read_signature x.version (suc (size x.version + length zone_chars)) rest
  good (record { message = record { header = x.header; fields = fields; signature = signature }; signed = size x.version + length zone_chars })
