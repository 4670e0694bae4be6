-- What is left to walk decides as the whole does.
use Prim.Native.Nat.{◌≤◌}
use mathlib.Core.Path.{◌≡◌}
use lib.ListN.{take, drop}
use Rattle.day_file.specs.Opening.{standing}
use Rattle.day_file.proofs.Walk.{stands_at}
use Rattle.day_file.proofs.Opened.stands.Given as goal

abbrev pub invariant-loop-i : goal.invariant-loop-i
invariant-loop-i l = (l.at ≤ l.self.trailer) × (stands_at l.file l.self.count l.self.trailer l.i l.at ≡ standing l.self.count 0 (take l.self.trailer l.file) (drop l.self.trailer l.file))
