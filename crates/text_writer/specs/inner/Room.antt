-- What the two passes of `write_text` answer and write, part by part, by the definitions.
use Rattle.std.specs.Prelude.{ℕ, ◌+◌, ◌≤◌, Bool, Option, Some, None, List, [], ◌∷◌, ◌++◌}
use Rattle.refusal.specs.Answers.{Answer, good, refused}
use Rattle.dictionary.specs.Dictionary.{Dictionary, row_at}
use Rattle.dictionary.specs.declared.Row.{Row}
use Rattle.dictionary.specs.declared.Field.{Field}
use Rattle.base32.specs.Base32.{encoded}
use Rattle.header.specs.declared.Header.{Header}
use Rattle.header.specs.declared.Version.{Version}
use Rattle.header.specs.Header.{header_chars}
use Rattle.text.specs.Text.{data_of, spelled}

-- a record's length is a number of 32 bits, so no sum of rooms is too large for the code
abbrev pub widest : ℕ
widest = 4294967296

-- the mark behind data as the code has it
abbrev pub mark_chars : Option ℕ → List ℕ
mark_chars (Some m) = m ∷ []
mark_chars None = []

-- a record's data lie inside a slice of n characters
abbrev pub lies_in : (n : ℕ) → Field → Type 0
lies_in n f = f.start + f.length ≤ n

-- the characters of a record that names a row, and of records side by side
abbrev pub spelled_by : Answer Row → (chars : List ℕ) → (cut : Bool) → List ℕ
spelled_by (good r) chars cut = spelled r chars cut
spelled_by (refused k p) chars cut = []

abbrev pub field_chars : Dictionary → (source : List ℕ) → Field → List ℕ
field_chars d source f = spelled_by (row_at d f.row 0) (data_of source f) f.cut

abbrev pub zone_chars : Dictionary → (source : List ℕ) → List Field → List ℕ
zone_chars d source [] = []
zone_chars d source (f ∷ fs) = field_chars d source f ++ zone_chars d source fs

-- header, records, mark and signature
abbrev pub text_chars : Dictionary → Version → Header → List Field → (signature source : List ℕ) → List ℕ
text_chars d v h fields s source = header_chars v h ++ (zone_chars d source fields ++ (31 ∷ encoded s))
