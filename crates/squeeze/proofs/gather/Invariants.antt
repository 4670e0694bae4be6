-- With each turn one record more is passed, and kept if it is live.
use Rattle.squeeze.specs.inner.Code.{scans_in}
use Rattle.squeeze.proofs.Gathered.{Gathered}
use Rattle.squeeze.proofs.gather.Given as goal

abbrev pub invariant-loop-i : goal.invariant-loop-i
invariant-loop-i l = Gathered l.initial.file (scans_in l.initial.file l.len) l.i l.to l.file
