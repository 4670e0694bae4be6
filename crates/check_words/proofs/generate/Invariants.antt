-- `generate` meets its contract: before the root j the words are those of the generator of the roots before it.
use Prim.Native.Nat.{◌-◌, ◌≤◌, ◌+◌}
use mathlib.Core.Path.{◌≡◌}
use lib.ListN.{length}
use Rattle.check_words.proofs.Growing.{grown}
use Rattle.check_words.proofs.generate.Given as goal

abbrev pub invariant-loop-j : goal.invariant-loop-j
invariant-loop-j l = (l.j ≤ length l.initial.g + 1) × (l.g ≡ grown (length l.initial.g) (l.j - 1))
