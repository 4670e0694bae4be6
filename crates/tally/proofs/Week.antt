-- Accepted plus refused equals the live records of the files added, counted from the files themselves. From any tally of the right
-- size; so from an empty one, whose counts are zero.
-- Assumes nothing.
use Prim.Native.Nat.{ℕ, ◌+◌}
use mathlib.Core.List.{List}
use mathlib.Core.Path.{◌≡◌, refl}
use lib.ListN.{length, replicate}
use Rattle.tally.specs.Counting.{accepted_in, refused_in, week, live_added, sum}
use Rattle.tally.specs.declared.Tally.{Tally}
use Rattle.tally.proofs.Totals.{week_total}
use Rattle.tally.proofs.Low.{slot_small}

abbrev pub empty : Tally
empty = record { counts = replicate 262 0 }

pub total : (fs : List (List ℕ)) (t : Tally) → length t.counts ≡ 262 → accepted_in (week fs t) + refused_in (week fs t) ≡ accepted_in t + refused_in t + live_added fs t
total fs t n = week_total slot_small fs t n

pub total_empty : (fs : List (List ℕ)) → accepted_in (week fs empty) + refused_in (week fs empty) ≡ 0 + live_added fs empty
unfolding sum
total_empty fs = total fs empty refl
