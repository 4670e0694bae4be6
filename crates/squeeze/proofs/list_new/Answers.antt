-- A number behind those that stand there.
use mathlib.Core.List.{◌++◌}
use mathlib.Core.Path.{sym, ap, ◌∙◌}
use lib.ListN.{take, drop}
use Rattle.std.proofs.Common.{slice_set}
use Rattle.refusal.specs.Over.{over}
use Rattle.squeeze.specs.Squeeze.{up_from}
use Rattle.squeeze.proofs.Lists.{over_one, length_up, up_more, up_none, front_over}
use Rattle.squeeze.proofs.list_new.Goals as goal

pub loop-i-init : goal.loop-i-init
loop-i-init c = sym (ap (λ l. over l (take c.args.n c.args.new.now)) up_none)

pub loop-i-preserved : goal.loop-i-preserved
loop-i-preserved c =
    let o = c.loop-i in
    let old = take c.args.n c.args.new.now in
    ap (λ l. slice_set l o.i o.i) o.invariant ∙ over_one (up_from 0 o.i) old o.i o.i (sym (length_up 0 o.i)) c.loop-i-test.true ∙ ap (λ l. over l old) (up_more o.i)

pub returns : goal.returns
returns c = ap (λ l. l ++ drop c.args.n c.args.new.now) c.loop-i.invariant ∙ front_over c.args.n c.loop-i.i c.args.new.now c.requires.0 c.loop-i-test.false c.loop-i.auto.i-end
