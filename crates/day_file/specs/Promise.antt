-- What the functions promise: the answer of the plain list of the file's scans, and the slice afterwards.
use Rattle.std.specs.Prelude.{ℕ, ◌+◌, List, leb, length, take}
use Rattle.refusal.specs.Answers.{Answer, good, refused, ◌>>=◌, ◌>>◌, check}
use Rattle.refusal.specs.Numbers.{text_too_long}
use Rattle.refusal.specs.Limits.{limit}
use Rattle.refusal.specs.Over.{over}
use Rattle.day_file.specs.File.{Scan, body, bytes_of}
use Rattle.day_file.specs.Opening.{opened}
use Rattle.day_file.specs.Plain.{add_plain, found, withdraw_plain, fetch_plain}

-- the file that stands in the slice s and has the length len
unfoldable pub adding : (s : List ℕ) (len : ℕ) → List ℕ → Answer (List Scan)
adding s len t = do
  rs ← opened s len
  add_plain t rs

unfoldable pub withdrawing : (s : List ℕ) (len : ℕ) → ℕ → Answer (List Scan)
withdrawing s len k = do
  rs ← opened s len
  withdraw_plain k rs

unfoldable pub fetching : (s : List ℕ) (len : ℕ) → ℕ → Answer (List ℕ)
fetching s len k = do
  rs ← opened s len
  fetch_plain k rs

-- the slice afterwards: the file of the new list, and behind it what stood there; a refusal leaves all
abbrev pub slice_after : Answer (List Scan) → List ℕ → List ℕ
slice_after (good rs) s = over (bytes_of rs) s
slice_after (refused k p) s = s

-- the text fetched as a part of the slice: where it starts, and its length
pub record Place : Type 0 where
  pub start : ℕ
  pub length : ℕ

abbrev pub placing : (s : List ℕ) (len : ℕ) → ℕ → Answer Place
placing s len k = do
  rs ← opened s len
  r ← found k rs
  check (leb (length r.text) limit) text_too_long 0
  good (record { start = length (body (take k rs)) + 3; length = length r.text })
