-- `part` meets its contract. The invariant: every character passed is of its set.
use Rattle.header.specs.inner.Code.{Passed}
use Rattle.header.proofs.part.Given as goal

abbrev pub invariant-loop-i : goal.invariant-loop-i
invariant-loop-i g l = Passed l.sets l.chars l.i
