-- What is left to count, with the tally so far, is what the whole is.
use mathlib.Core.Path.{◌≡◌}
use lib.ListN.{drop}
use Rattle.day_file.specs.Opening.{records}
use Rattle.day_file.specs.Opens.{list_of}
use Rattle.tally.specs.Counting.{add_all}
use Rattle.tally.proofs.count_file.Given as goal

abbrev pub invariant-loop-i : goal.invariant-loop-i
invariant-loop-i l = add_all (drop l.i (list_of (records l.file))) l.more ≡ add_all (list_of (records l.file)) l.fn.t
