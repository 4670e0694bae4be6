-- The invariant: what is chosen is chosen from the sizes not yet looked at.
use lib.ListN.{drop}
use Rattle.codeword.specs.Sizes.{capacities}
use Rattle.optimum.specs.Write.{choose}
use Rattle.symbol_writer.proofs.Choice.{Same}
use Rattle.symbol_writer.proofs.sizes.Size.choose.Given as goal

abbrev pub invariant-loop-capacity : goal.invariant-loop-capacity
invariant-loop-capacity l =
    Same l.shortest l.full (λ t. choose (drop l.capacity-index l.capacity-items) l.largest t) (λ t. choose capacities l.largest t)
