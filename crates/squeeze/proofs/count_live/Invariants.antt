-- With each turn the live ones of one record more are counted.
use Prim.Native.Nat.{◌≤◌}
use mathlib.Core.Path.{◌≡◌}
use lib.ListN.{length, take}
use Rattle.squeeze.specs.Squeeze.{live_ones}
use Rattle.squeeze.specs.inner.Code.{scans_in}
use Rattle.squeeze.proofs.count_live.Given as goal

abbrev pub invariant-loop-i : goal.invariant-loop-i
invariant-loop-i l = (l.n ≤ l.i) × (l.n ≡ length (live_ones (take l.i (scans_in l.file l.len))))
