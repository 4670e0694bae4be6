use mathlib.Core.Path.{◌≡◌}
use lib.ListN.{length, take, replicate}
use lib.Seq.{length-take-le}
use Rattle.std.proofs.Common.{rules}
use Rattle.symbol_writer.specs.Symbol.{zeros}
use Rattle.symbol_writer.proofs.clear.Goals as goal

pub returns : goal.returns
unfolding zeros
returns c =
    let filled : c.fill.new.self ≡ replicate (length (take 8192 c.args.work.now)) 0 = search rules in
    rw (filled, length-take-le 8192 c.args.work.now c.requires)
