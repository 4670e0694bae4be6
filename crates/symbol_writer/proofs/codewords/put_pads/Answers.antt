use native.Mathlib.Omega.{arith}
use Rattle.symbol_writer.proofs.Output.{pads_more}
use Rattle.symbol_writer.proofs.codewords.put_pads.Goals as goal

pub loop-i-preserved : goal.loop-i-preserved
loop-i-preserved c =
    let l = c.loop-i in pads_more _ c.args.symbol.now l.symbol c.args.first l.i c.args.capacity _ c.loop-i-test.true (omega (arith, l.invariant.long)) c.pad_at.ensures l.invariant
