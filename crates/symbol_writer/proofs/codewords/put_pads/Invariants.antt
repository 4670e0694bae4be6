-- The invariant: the pads so far are stored, and the rest are those from the place on.
use mathlib.Core.List.{◌++◌}
use Prim.Native.Nat.{◌-◌}
use lib.ListN.{take}
use Rattle.optimum.specs.Write.{padding}
use Rattle.symbol_writer.proofs.Output.{Front}
use Rattle.symbol_writer.proofs.codewords.put_pads.Given as goal

abbrev pub invariant-loop-i : goal.invariant-loop-i
invariant-loop-i l =
    Front (take l.first l.initial.symbol ++ padding l.first l.first (l.capacity - l.first)) l.initial.symbol l.symbol (padding l.first l.i (l.capacity - l.i)) l.i
