-- The header (document 01, "The text"), by version: its characters and its parts.
use Rattle.std.specs.Prelude.{ℕ, suc, ◌+◌, ◌-◌, ◌*◌, ◌/◌, ◌%◌, ◌<◌, Bool, true, false, ◌&&◌, ◌||◌, List, [], ◌∷◌, ◌++◌, ◌≡◌, ltb, leb, eqb, length, get_or, replicate}
use Rattle.refusal.specs.Pick.{pick}
use Rattle.refusal.specs.Answers.{Answer, good, refused, ◌>>=◌, ◌>>◌, check}
use Rattle.refusal.specs.Numbers.{header_too_short, not_dc, unknown_version, wrong_header_character, wrong_perimeter}
use Rattle.header.specs.declared.Header.{Header}
use Rattle.header.specs.declared.Version.{Version}
use Rattle.header.specs.declared.Version.TheVariants.{V02, V03, V04}
use Rattle.refusal.specs.Classes.{between, digit, upper}

-- the characters of a header: version 03 has a perimeter more than version 02, and version 04 a country as well
abbrev pub size : Version → ℕ
size V02 = 22
size V03 = 24
size V04 = 26

-- which version has which of the two
abbrev pub has_perimeter : Version → Bool
has_perimeter V02 = false
has_perimeter V03 = true
has_perimeter V04 = true

abbrev pub has_country : Version → Bool
has_country V02 = false
has_country V03 = false
has_country V04 = true

-- what stands for a part that the version lacks
abbrev pub blank : List ℕ
blank = 0 ∷ 0 ∷ []

abbrev pub upper_or_digit : ℕ → Bool
upper_or_digit c = upper c || digit c

abbrev pub hex : ℕ → Bool
hex c = digit c || between 65 70 c

-- the version; 12 at place 2 if it is none of the three
abbrev pub version_of : (a b : ℕ) → Answer Version
version_of a b =
    pick (eqb a 48 && eqb b 50) (good V02)
    (pick (eqb a 48 && eqb b 51) (good V03)
    (pick (eqb a 48 && eqb b 52) (good V04) (refused unknown_version 2)))

-- the characters of t from the place p on, one of each of the sets in turn; 13 at the first that is not
unfoldable pub part : List (ℕ → Bool) → (p : ℕ) → (t : List ℕ) → Answer (List ℕ)
part [] p t = good []
part (f ∷ fs) p t = do
  check (f (get_or t p 0)) wrong_header_character p
  l ← part fs (suc p) t
  good (get_or t p 0 ∷ l)

-- a day is a count of days since 1 January 2000, in four hexadecimal digits with capital letters
abbrev pub hex_value : ℕ → ℕ
hex_value c = pick (leb c 57) (c - 48) (c - 55)

abbrev pub hex_char : ℕ → ℕ
hex_char v = pick (ltb v 10) (v + 48) (v + 55)

unfoldable pub number : List ℕ → ℕ
number l = 4096 * hex_value (get_or l 0 0) + 256 * hex_value (get_or l 1 0) + 16 * hex_value (get_or l 2 0) + hex_value (get_or l 3 0)

unfoldable pub digits : ℕ → List ℕ
digits n = hex_char (n / 4096) ∷ hex_char (n / 256 % 16) ∷ hex_char (n / 16 % 16) ∷ hex_char (n % 16) ∷ []

-- the perimeter 01, else 14 at place 22
abbrev pub perimeter01 : (t : List ℕ) → Answer (List ℕ)
perimeter01 t = do
  check (eqb (get_or t 22 0) 48 && eqb (get_or t 23 0) 49) wrong_perimeter 22
  good (48 ∷ 49 ∷ [])

abbrev pub version_chars : Version → List ℕ
version_chars V02 = 48 ∷ 50 ∷ []
version_chars V03 = 48 ∷ 51 ∷ []
version_chars V04 = 48 ∷ 52 ∷ []

-- THE HEADER'S PARTS, left to right, behind DC and the version
unfoldable pub parts : Version → (t : List ℕ) → Answer Header
parts v t = do
  authority ← part (upper ∷ upper ∷ upper_or_digit ∷ upper_or_digit ∷ []) 4 t
  certificate ← part (upper_or_digit ∷ upper_or_digit ∷ upper_or_digit ∷ upper_or_digit ∷ []) 8 t
  issue_day ← part (hex ∷ hex ∷ hex ∷ hex ∷ []) 12 t
  signing_day ← part (hex ∷ hex ∷ hex ∷ hex ∷ []) 16 t
  doctype ← part (upper_or_digit ∷ upper_or_digit ∷ []) 20 t
  perimeter ← pick (has_perimeter v) (perimeter01 t) (good blank)
  country ← pick (has_country v) (part (upper ∷ upper ∷ []) 24 t) (good blank)
  good (record { version = version_chars v; authority = authority; certificate = certificate; issue_day = number issue_day; signing_day = number signing_day; doctype = doctype; perimeter = perimeter; country = country })

-- a header that was read, with its version
pub record Headed : Type 0 where
  pub version : Version
  pub header : Header

-- of a known version: 10 for its length, then its parts
unfoldable pub known : Version → (t : List ℕ) → Answer Headed
known v t = do
  check (leb (size v) (length t)) header_too_short (length t)
  header ← parts v t
  good (record { version = v; header = header })

-- READING A HEADER: 10 below 22 characters, 11, 12, then by version
unfoldable pub read_header : (t : List ℕ) → Answer Headed
read_header t = do
  check (leb 22 (length t)) header_too_short (length t)
  check (eqb (get_or t 0 0) 68 && eqb (get_or t 1 0) 67) not_dc 0
  v ← version_of (get_or t 2 0) (get_or t 3 0)
  known v t

-- the header's characters
unfoldable pub header_chars : Version → Header → List ℕ
header_chars v h =
    68 ∷ 67 ∷ version_chars v ++ (h.authority ++ (h.certificate ++ (digits h.issue_day ++ (digits h.signing_day ++ (h.doctype ++ (pick (has_perimeter v) h.perimeter [] ++ pick (has_country v) h.country []))))))

-- WRITING A HEADER: 12, and what reading its characters would refuse; since DC and all parts are there, 10 and 11 don't occur
abbrev pub write_header : Header → Answer (List ℕ)
write_header h = do
  v ← version_of (get_or h.version 0 0) (get_or h.version 1 0)
  parts v (header_chars v h)
  good (header_chars v h)

-- in the code a part is an array, and a day a number of 16 bits
pub record Shaped (h : Header) : Type 0 where
  pub version : length h.version ≡ 2
  pub authority : length h.authority ≡ 4
  pub certificate : length h.certificate ≡ 4
  pub issue_day : h.issue_day < 65536
  pub signing_day : h.signing_day < 65536
  pub doctype : length h.doctype ≡ 2
  pub perimeter : length h.perimeter ≡ 2
  pub country : length h.country ≡ 2

-- the parts that the version has
abbrev pub kept : Version → Header → Header
kept v h = record { version = h.version; authority = h.authority; certificate = h.certificate; issue_day = h.issue_day; signing_day = h.signing_day; doctype = h.doctype; perimeter = pick (has_perimeter v) h.perimeter blank; country = pick (has_country v) h.country blank }

abbrev pub kept_by : Answer Version → Header → Header
kept_by (good v) h = kept v h
kept_by (refused k p) h = h

abbrev pub the_parts : Header → Header
the_parts h = kept_by (version_of (get_or h.version 0 0) (get_or h.version 1 0)) h

-- a header of zeros: what the C interface gives where a text is refused
abbrev pub no_header : Header
no_header = record { version = blank; authority = replicate 4 0; certificate = replicate 4 0; issue_day = 0; signing_day = 0; doctype = blank; perimeter = blank; country = blank }
