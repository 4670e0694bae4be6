-- A plain list of texts with states, and what adding, withdrawing and fetching answer on it (document 02, K7).
use Rattle.std.specs.Prelude.{ℕ, ◌+◌, List, [], ◌∷◌, ◌++◌, leb, ltb, eqb, length, get_or, set}
use Rattle.refusal.specs.Answers.{Answer, good, ◌>>=◌, ◌>>◌, check}
use Rattle.refusal.specs.Numbers.{text_too_long, file_full, no_scan}
use Rattle.refusal.specs.Limits.{limit}
use Rattle.day_file.specs.File.{Scan, most_bytes, need}

-- the scan of a number; numbers count from 0
abbrev pub numbered : List Scan → ℕ → Scan
numbered rs k = get_or rs k (record { state = 0; text = [] })

abbrev pub live : List ℕ → Scan
live t = record { state = 1; text = t }

abbrev pub withdrawn : Scan → Scan
withdrawn r = record { state = 0; text = r.text }

-- the size of the file of a list: a record and its start in four bytes, for each; and 8
unfoldable pub size : List Scan → ℕ
size [] = 8
size (r ∷ rs) = 4 + need r + size rs

-- 5, then 36 where the file has no room for 7 bytes and the text
abbrev pub add_plain : List ℕ → List Scan → Answer (List Scan)
add_plain t rs = do
  check (leb (length t) limit) text_too_long 0
  check (leb (size rs + (7 + length t)) most_bytes) file_full 0
  good (rs ++ (live t ∷ []))

-- 37 where no scan has the number, or it is withdrawn
abbrev pub found : ℕ → List Scan → Answer Scan
found k rs = do
  check (ltb k (length rs)) no_scan 0
  check (eqb (numbered rs k).state 1) no_scan 0
  good (numbered rs k)

abbrev pub withdraw_plain : ℕ → List Scan → Answer (List Scan)
withdraw_plain k rs = do
  r ← found k rs
  good (set rs k (withdrawn r))

-- 37, then 5
abbrev pub fetch_plain : ℕ → List Scan → Answer (List ℕ)
fetch_plain k rs = do
  r ← found k rs
  check (leb (length r.text) limit) text_too_long 0
  good r.text
