-- The remainder by two tells the parity.
use Rattle.symbol_writer.proofs.Rows.{even_is, odd_is}
use Rattle.symbol_writer.proofs.costs.Least.allows.Goals as goal
use Rattle.symbol_writer.proofs.costs.Least.allows.Goals.{then-n-eq0, else-n-eq0}

pub returns : goal.returns
returns c =
    elim c.if-n-eq0.branch [
      | then-n-eq0 w ↦ rw (c.from.ensures, w.cost-is, even_is c.args.n w.if-n-eq0.true)
      | else-n-eq0 w ↦ rw (c.from.ensures, w.cost-is, odd_is c.args.n w.if-n-eq0.false)
    ]
