-- With each turn the numbers of one record more.
use mathlib.Core.Path.{◌≡◌}
use lib.ListN.{length, take}
use Rattle.refusal.specs.Over.{over}
use Rattle.squeeze.specs.Squeeze.{old_numbers}
use Rattle.squeeze.specs.inner.Code.{scans_in}
use Rattle.squeeze.proofs.list_old.Given as goal

abbrev pub invariant-loop-i : goal.invariant-loop-i
invariant-loop-i l = (l.j ≡ length (old_numbers 0 (take l.i (scans_in l.file l.len)))) × (l.old ≡ over (old_numbers 0 (take l.i (scans_in l.file l.len))) l.initial.old)
