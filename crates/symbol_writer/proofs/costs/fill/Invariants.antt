-- The invariant: the costs at the place i are at hand, and the rows from i on are stored.
use mathlib.Core.Path.{◌≡◌}
use lib.ListN.{drop}
use Rattle.optimum.specs.Cost.{cost}
use Rattle.symbol_writer.specs.Rows.{costs_of, Filled}
use Rattle.symbol_writer.proofs.costs.fill.Given as goal

abbrev pub invariant-loop-i : goal.invariant-loop-i
invariant-loop-i l =
    record {
      costs : l.costs ≡ costs_of (cost l.padded (drop l.i l.text));
      filled : Filled l.padded l.text l.fn.work l.work l.i;
    }
