-- The day file (document 02, K7): records one behind the other, then a trailer that points back to each of them.
use Rattle.std.specs.Prelude.{ℕ, ◌+◌, ◌/◌, ◌%◌, ◌≤◌, Bool, true, ◌&&◌, List, [], ◌∷◌, ◌++◌, ◌≡◌, leb, length}

-- A file has at most 32,768 bytes.
abbrev pub most_bytes : ℕ
most_bytes = 32768

-- a text that was scanned, and its state: 1 live, 0 withdrawn
pub record Scan : Type 0 where
  pub state : ℕ
  pub text : List ℕ

-- a number in two bytes, and in four, high byte first
abbrev pub two : ℕ → List ℕ
two n = n / 256 ∷ n % 256 ∷ []

abbrev pub four : ℕ → List ℕ
four n = n / 16777216 ∷ n / 65536 % 256 ∷ n / 256 % 256 ∷ n % 256 ∷ []

-- a record: state, the text's length, the text
abbrev pub record_of : Scan → List ℕ
record_of r = r.state ∷ two (length r.text) ++ r.text

-- its size
abbrev pub need : Scan → ℕ
need r = 3 + length r.text

-- the records side by side
unfoldable pub body : List Scan → List ℕ
body [] = []
body (r ∷ rs) = record_of r ++ body rs

-- where each of them starts, if the first starts at `at`
unfoldable pub starts : (at : ℕ) → List Scan → List ℕ
starts at [] = []
starts at (r ∷ rs) = four at ++ starts (at + need r) rs

-- the trailer: the starts, the count of records, its own start
abbrev pub trailer : List Scan → List ℕ
trailer rs = starts 0 rs ++ (four (length rs) ++ four (length (body rs)))

-- THE FILE OF A LIST of scans
unfoldable pub bytes_of : List Scan → List ℕ
bytes_of rs = body rs ++ trailer rs

-- each state is 0 or 1
unfoldable pub states : List Scan → Bool
states [] = true
states (r ∷ rs) = leb r.state 1 && states rs

-- A GOOD FILE, and the list whose file it is. No limit of a text is spoken of.
pub record FileOf (f : List ℕ) (rs : List Scan) : Type 0 where
  pub whole : bytes_of rs ≡ f
  pub small : states rs ≡ true
  pub fits : length f ≤ most_bytes
