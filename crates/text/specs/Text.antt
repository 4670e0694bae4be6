-- Text to message and back (document 01, "The text" and "Numbers that come back"), over any dictionary.
use Rattle.std.specs.Prelude.{ℕ, suc, ◌+◌, Bool, true, false, not, ◌&&◌, Option, Some, None, List, [], ◌∷◌, ◌++◌, ◌≡◌, leb, eqb, length, take, drop}
use Rattle.refusal.specs.Pick.{pick}
use Rattle.refusal.specs.Answers.{Answer, good, refused, ◌>>=◌, ◌>>◌, check}
use Rattle.refusal.specs.Numbers.{text_too_long, lent_too_short, no_mark, wrong_character, data_too_short, identifier_repeated, data_too_long, fixed_cut, too_many_fields, bad_record}
use Rattle.refusal.specs.Limits.{limit, most_fields}
use Rattle.refusal.specs.Among.{among}
use Rattle.dictionary.specs.Dictionary.{Dictionary, allowed, fixed, full, row_at, rows_of}
use Rattle.dictionary.specs.declared.Row.{Row}
use Rattle.dictionary.specs.declared.Field.{Field}
use Rattle.header.specs.declared.Header.{Header}
use Rattle.text.specs.Zone.{zone}
use Rattle.header.specs.Header.{size, read_header, write_header, the_parts}
use Rattle.text.specs.Signature.{read_signature, write_signature}

-- a message: its records point into the source that stands beside it
pub record Message : Type 0 where
  pub header : Header
  pub fields : List Field
  pub signature : List ℕ

-- the characters up to the first 31, and those behind it; 15 where there is none, at the place p behind the last
pub record Halves : Type 0 where
  pub before : List ℕ
  pub behind : List ℕ

abbrev pub further : ℕ → Answer Halves → Answer Halves
further c (good h) = good (record { before = c ∷ h.before; behind = h.behind })
further c (refused k p) = refused k p

unfoldable pub at_mark : (p : ℕ) → List ℕ → Answer Halves
at_mark p [] = refused no_mark p
at_mark p (c ∷ l) = pick (eqb c 31) (good (record { before = []; behind = l })) (further c (at_mark (suc p) l))

-- A message that was read, with the length of the signed part
pub record Received : Type 0 where
  pub message : Message
  pub signed : ℕ

-- READING A TEXT, all but 5 and 6
unfoldable pub reading : Dictionary → (t : List ℕ) → Answer Received
reading d t = do
  x ← read_header t
  h ← at_mark (size x.version) (drop (size x.version) t)
  fields ← zone d most_fields [] (size x.version) h.before
  signature ← read_signature x.version (suc (size x.version + length h.before)) h.behind
  good (record { message = record { header = x.header; fields = fields; signature = signature }; signed = size x.version + length h.before })

-- READING A TEXT into a lent list of `room` records
unfoldable pub read_text : Dictionary → (room : ℕ) → (t : List ℕ) → Answer Received
read_text d room t = do
  check (leb (length t) limit) text_too_long limit
  check (leb most_fields room) lent_too_short 0
  reading d t

-- the length of the signed part, which is header and zone without the 31; of a refused text there is none
abbrev pub signed_length : Answer Received → ℕ
signed_length (good x) = x.signed
signed_length (refused k p) = 0

-- writing: a record's data, in the source
abbrev pub data_of : List ℕ → Field → List ℕ
data_of source f = take f.length (drop f.start source)

abbrev pub within : Option ℕ → ℕ → Bool
within (Some n) m = leb m n
within None m = true

-- each character may stand behind those before it
unfoldable pub in_turn : Row → (chars : List ℕ) → List ℕ → Bool
in_turn r chars [] = true
in_turn r chars (c ∷ l) = allowed r chars c && in_turn r (chars ++ (c ∷ [])) l

-- what stands behind the data
abbrev pub ending : Row → (chars : List ℕ) → (cut : Bool) → List ℕ
ending r chars true = 30 ∷ []
ending r chars false = pick (full r chars) [] (29 ∷ [])

abbrev pub spelled : Row → (chars : List ℕ) → (cut : Bool) → List ℕ
spelled r chars cut = r.first ∷ r.second ∷ (chars ++ ending r chars cut)

-- what counts of a field where messages are compared: where the data start doesn't
pub record Entry : Type 0 where
  pub row : ℕ
  pub chars : List ℕ
  pub cut : Bool

abbrev pub entry : (source : List ℕ) → Field → Entry
entry source f = record { row = f.row; chars = data_of source f; cut = f.cut }

unfoldable pub entries : (source : List ℕ) → List Field → List Entry
entries source [] = []
entries source (f ∷ fs) = entry source f ∷ entries source fs

-- a record's data, behind its checks: the characters of the i-th record
unfoldable pub write_data : Row → (chars : List ℕ) → (cut : Bool) → (i : ℕ) → Answer (List ℕ)
write_data r chars cut i = do
  check (not (cut && fixed r)) fixed_cut i
  check (within r.greatest (length chars)) data_too_long i
  check (in_turn r [] chars) wrong_character i
  check (leb r.least (length chars)) data_too_short i
  good (spelled r chars cut)

-- one record, the i-th
unfoldable pub write_field : Dictionary → (source : List ℕ) → (before : List Field) → (i : ℕ) → Field → Answer (List ℕ)
write_field d source before i f = do
  r ← row_at d f.row i
  check (leb (f.start + f.length) (length source)) bad_record i
  check (not (among f.row (rows_of before))) identifier_repeated i
  write_data r (data_of source f) f.cut i

-- WRITING THE FIELDS side by side, behind those before them
unfoldable pub write_zone : Dictionary → (source : List ℕ) → (before : List Field) → (i : ℕ) → List Field → Answer (List ℕ)
write_zone d source before i [] = good []
write_zone d source before i (f ∷ fs) = do
  x ← write_field d source before i f
  y ← write_zone d source (before ++ (f ∷ [])) (suc i) fs
  good (x ++ y)

-- WRITING A MESSAGE, whose records point into the source: 27, the header, the records one by one, the signature
unfoldable pub writing : Dictionary → Message → (source : List ℕ) → Answer (List ℕ)
writing d m source = do
  check (leb (length m.fields) most_fields) too_many_fields most_fields
  header ← write_header m.header
  fields ← write_zone d source [] 0 m.fields
  signature ← write_signature m.signature
  good (header ++ (fields ++ (31 ∷ signature)))

-- WRITING A MESSAGE into an output of `room` bytes: then 5, then 6
unfoldable pub write_text : Dictionary → Message → (source : List ℕ) → (room : ℕ) → Answer (List ℕ)
write_text d m source room = do
  t ← writing d m source
  check (leb (length t) limit) text_too_long limit
  check (leb (length t) room) lent_too_short 0
  good t

-- a message is admissible when writing it into an output with room enough, as `limit` bytes are, is not refused; t is its text
pub record Admissible (d : Dictionary) (m : Message) (source : List ℕ) (t : List ℕ) : Type 0 where
  pub written : write_text d m source limit ≡ good t

-- two messages, each with its source, are the same: the parts that the version has, the rows in order with their data and cut marks, the signature
pub record SameMessage (m : Message) (source : List ℕ) (m' : Message) (source' : List ℕ) : Type 0 where
  pub header : the_parts m.header ≡ the_parts m'.header
  pub fields : entries source m.fields ≡ entries source' m'.fields
  pub signature : m.signature ≡ m'.signature
