-- Sequences of adding, withdrawing and fetching, on a plain list and on a file (document 02, K7). `proofs/Runs` has that they answer alike.
use Rattle.std.specs.Prelude.{ℕ, ◌-◌, List, [], ◌∷◌, length}
use Rattle.refusal.specs.Answers.{Answer, good, refused}
use Rattle.day_file.specs.File.{Scan, bytes_of}
use Rattle.day_file.specs.Plain.{add_plain, withdraw_plain, fetch_plain}
use Rattle.day_file.specs.Promise.{adding, withdrawing, fetching, slice_after}

pub data Op : Type 0 where
  add : List ℕ → Op
  withdraw : ℕ → Op
  fetch : ℕ → Op

-- what an operation answers: the number of the record, nothing, or the text; or a refusal
pub data Reply : Type 0 where
  added : Answer ℕ → Reply
  withdrew : Answer (Unit {0}) → Reply
  fetched : Answer (List ℕ) → Reply

-- the number of the record that was added: the last one's
abbrev pub last_number : Answer (List Scan) → Answer ℕ
last_number (good rs) = good (length rs - 1)
last_number (refused k p) = refused k p

abbrev pub done : Answer (List Scan) → Answer (Unit {0})
done (good rs) = good tt
done (refused k p) = refused k p

-- the list afterwards; a refusal leaves it
abbrev pub list_after : Answer (List Scan) → List Scan → List Scan
list_after (good rs) old = rs
list_after (refused k p) old = old

-- A SEQUENCE ON A PLAIN LIST
unfoldable pub run_plain : List Op → List Scan → List Reply
run_plain [] rs = []
run_plain (add t ∷ ops) rs = added (last_number (add_plain t rs)) ∷ run_plain ops (list_after (add_plain t rs) rs)
run_plain (withdraw k ∷ ops) rs = withdrew (done (withdraw_plain k rs)) ∷ run_plain ops (list_after (withdraw_plain k rs) rs)
run_plain (fetch k ∷ ops) rs = fetched (fetch_plain k rs) ∷ run_plain ops rs

-- the file's length afterwards; a refusal leaves it
abbrev pub length_after : Answer (List Scan) → ℕ → ℕ
length_after (good rs) len = length (bytes_of rs)
length_after (refused k p) len = len

-- THE SAME SEQUENCE ON A FILE in a slice, with its length beside it
unfoldable pub run_file : List Op → (s : List ℕ) (len : ℕ) → List Reply
run_file [] s len = []
run_file (add t ∷ ops) s len = added (last_number (adding s len t)) ∷ run_file ops (slice_after (adding s len t) s) (length_after (adding s len t) len)
run_file (withdraw k ∷ ops) s len = withdrew (done (withdrawing s len k)) ∷ run_file ops (slice_after (withdrawing s len k) s) (length_after (withdrawing s len k) len)
run_file (fetch k ∷ ops) s len = fetched (fetching s len k) ∷ run_file ops s len
