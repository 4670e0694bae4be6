-- What the functions answer where they do not refuse, as their structs have it.
use Rattle.std.specs.Prelude.{ℕ, ◌-◌, List, [], length}
use Rattle.refusal.specs.Answers.{Answer, good, refused}
use Rattle.day_file.specs.File.{Scan, body, bytes_of}
use Rattle.day_file.specs.Promise.{Place}
use Rattle.day_file.specs.declared.Opened.{Opened}
use Rattle.day_file.specs.declared.Added.{Added}
use Rattle.day_file.specs.declared.Placed.{Placed}

-- the record count and the trailer's start
abbrev pub opened_answer : List Scan → Opened
opened_answer rs = record { count = length rs; trailer = length (body rs) }

-- the number of the record that was added, and the file's new length
abbrev pub added_answer : List Scan → Added
added_answer rs = record { number = length rs - 1; length = length (bytes_of rs) }

abbrev pub withdrawn_answer : List Scan → Unit {0}
withdrawn_answer rs = tt

-- where the text starts, and its length
abbrev pub placed_answer : Place → Placed
placed_answer x = record { start = x.start; length = x.length }

-- the text fetched; empty if refused
abbrev pub text_of : Answer (List ℕ) → List ℕ
text_of (good t) = t
text_of (refused k p) = []
