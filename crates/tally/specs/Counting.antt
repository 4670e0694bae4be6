-- The week in figures (document 02, K9): each live text of a file is read again and counted, under its type, under all others, or under its refusal.
use Rattle.std.specs.Prelude.{ℕ, ◌+◌, List, [], ◌∷◌, ltb, length, get_or, set, take, drop}
use Rattle.refusal.specs.Pick.{pick}
use Rattle.refusal.specs.Answers.{Answer, good, refused, ◌>>=◌, ◌>>◌, check}
use Rattle.refusal.specs.Numbers.{count_full}
use Rattle.refusal.specs.Limits.{most_fields}
use Rattle.dictionary.specs.Rows.{rows}
use Rattle.conformity.specs.Conformity.{column_of}
use Rattle.text.specs.Text.{Received, read_text}
use Rattle.day_file.specs.File.{Scan}
use Rattle.day_file.specs.Opening.{records}
use Rattle.squeeze.specs.Squeeze.{is_live, live_ones}
use Rattle.tally.specs.declared.Tally.{Tally}

-- a count never passes it
abbrev pub most_count : ℕ
most_count = 4294967295

-- where a reading is counted: 0 to 4 the types that conformity covers, 5 all others, and from 6 on the refusals by number
abbrev pub slot_of : Answer Received → ℕ
slot_of (good x) = column_of (get_or x.message.header.doctype 0 0) (get_or x.message.header.doctype 1 0)
slot_of (refused k p) = 6 + k

abbrev pub slot_in : List ℕ → ℕ
slot_in text = slot_of (read_text rows most_fields text)

-- a text counted: 38 where its count would pass the most
unfoldable pub add_text : List ℕ → Tally → Answer Tally
add_text text t = do
  check (ltb (get_or t.counts (slot_in text) 0) most_count) count_full 0
  good (record { counts = set t.counts (slot_in text) (get_or t.counts (slot_in text) 0 + 1) })

-- a withdrawn scan is not counted
abbrev pub add_scan : Scan → Tally → Answer Tally
add_scan r t = pick (is_live r) (add_text r.text t) (good t)

unfoldable pub add_all : List Scan → Tally → Answer Tally
add_all [] t = good t
add_all (r ∷ rs) t = add_scan r t >>= add_all rs

-- THE TALLY WITH A FILE ADDED, or 35, or 38
unfoldable pub counting : (file : List ℕ) → Tally → Answer Tally
counting f t = do
  rs ← records f
  add_all rs t

-- accepted texts and refused ones
unfoldable pub sum : List ℕ → ℕ
sum [] = 0
sum (n ∷ l) = n + sum l

abbrev pub accepted_in : Tally → ℕ
accepted_in t = sum (take 6 t.counts)

abbrev pub refused_in : Tally → ℕ
refused_in t = sum (drop 6 t.counts)

-- FILES ONE AFTER THE OTHER: a refused one leaves the tally
abbrev pub tally_after : Answer Tally → Tally → Tally
tally_after (good t) old = t
tally_after (refused k p) old = old

unfoldable pub week : (files : List (List ℕ)) → Tally → Tally
week [] t = t
week (f ∷ fs) t = week fs (tally_after (counting f t) t)

-- the live records of the files added, counted from the files themselves
abbrev pub live_in : Answer (List Scan) → ℕ
live_in (good rs) = length (live_ones rs)
live_in (refused k p) = 0

abbrev pub if_added : Answer Tally → ℕ → ℕ
if_added (good t) n = n
if_added (refused k p) n = 0

unfoldable pub live_added : (files : List (List ℕ)) → Tally → ℕ
live_added [] t = 0
live_added (f ∷ fs) t = if_added (counting f t) (live_in (records f)) + live_added fs (tally_after (counting f t) t)
