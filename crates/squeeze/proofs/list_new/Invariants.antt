-- With each turn one more number.
use mathlib.Core.Path.{◌≡◌}
use Rattle.refusal.specs.Over.{over}
use Rattle.squeeze.specs.Squeeze.{up_from}
use Rattle.squeeze.proofs.list_new.Given as goal

abbrev pub invariant-loop-i : goal.invariant-loop-i
invariant-loop-i l = l.number-items ≡ over (up_from 0 l.i) l.initial.number-items
