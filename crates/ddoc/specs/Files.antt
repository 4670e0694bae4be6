-- The answers on day files as the C interface gives them.
use Rattle.std.specs.Prelude.{ℕ, ◌-◌, List, length}
use Rattle.refusal.specs.Answers.{Answer as Says, good as accepts, refused as refuses}
use Rattle.day_file.specs.File.{Scan, bytes_of}
use Rattle.day_file.specs.Promise.{Place}
use Rattle.squeeze.specs.Squeeze.{live_ones}
use Rattle.tally.specs.declared.Tally.{Tally}
use Rattle.ddoc.specs.declared.Answer.{Answer}
use Rattle.ddoc.specs.declared.Part.{Part}
use Rattle.ddoc.specs.Answers.{accepted, refused}

-- the file's length now, and the number of the record added
abbrev pub added_numbers : Says (List Scan) → Answer
added_numbers (accepts rs) = accepted (length (bytes_of rs)) (length rs - 1)
added_numbers (refuses k p) = refused k p

-- the file's length, as it was
abbrev pub withdrawn_numbers : (len : ℕ) → Says (List Scan) → Answer
withdrawn_numbers len (accepts rs) = accepted len 0
withdrawn_numbers len (refuses k p) = refused k p

-- the part of the slice that is the text
abbrev pub part_numbers : Says Place → Part
part_numbers (accepts x) = record { number = 0; place = 0; which = 0; start = x.start; length = x.length }
part_numbers (refuses k p) = record { number = k; place = p; which = 0; start = 0; length = 0 }

-- the file's length now, and the count of live records
abbrev pub squeezed_numbers : Says (List Scan) → Answer
squeezed_numbers (accepts rs) = accepted (length (bytes_of (live_ones rs))) (length (live_ones rs))
squeezed_numbers (refuses k p) = refused k p

-- 0, or the number and the place of a refusal
abbrev pub tallied_numbers : Says Tally → Answer
tallied_numbers (accepts t) = accepted 0 0
tallied_numbers (refuses k p) = refused k p
