-- The codewords stand in front, the pads behind them, and the rest is as it was.
use Rattle.symbol_writer.proofs.Whole.{symbol_put}
use Rattle.symbol_writer.proofs.put_symbol.Goals as goal
use Rattle.symbol_writer.proofs.put_symbol.Goals.{then-not-size, else-not-size}

pub returns : goal.returns
returns c =
    let put = c.put_codewords-used.ensures in
    let whole = symbol_put _ c.args.size.used c.args.size.capacity c.args.symbol.now _ _ put c.args.size.room c.requires.room _ c.put_pads.ensures in
    record {
      count = put.count;
      is = whole.0;
      size = whole.1;
      long = elim c.if-not-size.branch [ then-not-size w ↦ rw w.work-is w.fill.ensures.1.long | else-not-size w ↦ rw w.work-is ];
      rest = elim c.if-not-size.branch [ then-not-size w ↦ rw w.work-is w.fill.ensures.1.rest | else-not-size w ↦ rw w.work-is ];
    }
