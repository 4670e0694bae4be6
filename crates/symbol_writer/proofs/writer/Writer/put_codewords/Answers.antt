use Prim.Native.Nat.{◌≤◌}
use native.Mathlib.Omega.{arith}
use lib.ListN.{length}
use Rattle.symbol_writer.proofs.Output.{written_all, written_up, written_on}
use Rattle.symbol_writer.proofs.writer.Writer.put_codewords.Goals as goal

pub returns-in_default : goal.returns-in_default
returns-in_default c =
    let long_enough : c.args.n ≤ length c.loop-done.symbol = omega (arith, c.loop-done.invariant.front.long, c.requires) in
    written_up _ _ _ _ _ _ _ _ c.loop-done.invariant long_enough c.loop-done-test.true c.in_default.ensures.is

pub loop-done-preserved : goal.loop-done-preserved
loop-done-preserved c =
    let long_enough : c.args.n ≤ length c.loop-done.symbol = omega (arith, c.loop-done.invariant.front.long, c.requires) in
    written_on _ _ _ _ _ _ _ _ c.loop-done.invariant long_enough c.loop-done-test.true c.in-Some.m _ _ c.in-Some.ensures.is c.in-Some.ensures.within c.put-done.ensures.0 c.put-done.ensures.1

pub returns : goal.returns
returns c =
    let long_enough : c.args.n ≤ length c.loop-done.symbol = omega (arith, c.loop-done.invariant.front.long, c.requires) in
    written_all _ _ _ _ _ _ _ _ c.loop-done.invariant long_enough c.loop-done-test.false
