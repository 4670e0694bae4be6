-- What the inner functions are told of a file, that it was opened, and say of a record. No public promise cites it.
use Rattle.std.specs.Prelude.{ℕ, List, [], ◌≡◌, length, take}
use Rattle.refusal.specs.Answers.{Answer, good, refused, ◌>>=◌}
use Rattle.refusal.specs.Said.{turned}
use Rattle.day_file.specs.File.{Scan, body}
use Rattle.day_file.specs.Opening.{opened}
use Rattle.day_file.specs.Plain.{found}
use Rattle.day_file.specs.Answers.{opened_answer}
use Rattle.day_file.specs.declared.Opened.{Opened}

-- the scans of a file that is good, and none of another
abbrev pub list_of : Answer (List Scan) → List Scan
list_of (good rs) = rs
list_of (refused k p) = []

-- a file that was opened, with this record count and this trailer's start
abbrev pub Opens : Answer (List Scan) → Opened → Type 0
Opens x o = good o ≡ turned opened_answer x

-- where the record of a number starts, if it is live.
abbrev pub finding : (s : List ℕ) (len : ℕ) → ℕ → Answer ℕ
finding s len k = do
  rs ← opened s len
  r ← found k rs
  good (length (body (take k rs)))
