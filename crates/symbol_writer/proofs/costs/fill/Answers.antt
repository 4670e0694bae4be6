use mathlib.Core.Path.{◌≡◌}
use Prim.Native.Nat.{◌+◌, ◌-◌}
use native.Mathlib.Omega.{arith}
use lib.ListN.{drop, length-drop}
use Rattle.symbol_writer.proofs.Rows.{low_of, costs_again, filled_more, filled_last}
use Rattle.symbol_writer.proofs.costs.fill.Goals as goal

pub loop-i-init : goal.loop-i-init
loop-i-init c =
    let F = filled_last c.args.padded c.args.text.now c.args.work.now c.at_end-costs.result (omega arith) (omega arith) c.at_end-costs.ensures in
    record { costs = F.0; filled = rw c.store.ensures F.1 }

pub before-costs-requires : goal.before-costs-requires
before-costs-requires c =
    let l = c.loop-i in low_of c.args.padded (drop l.i c.args.text.now) l.costs (omega (arith, length-drop l.i c.args.text.now)) l.invariant.costs

pub loop-i-preserved : goal.loop-i-preserved
loop-i-preserved c =
    let l = c.loop-i in
    let i = l.i - 1 in
    let e : i + 1 ≡ l.i = omega arith in
    let k = costs_again c.args.padded c.args.text.now i l.costs _ (omega arith) (rw e l.invariant.costs) c.before-costs.ensures in
    record {
      costs = k;
      filled = rw c.store-in-loop-i.ensures (filled_more c.args.padded c.args.text.now _ l.work i _ (omega arith) (omega arith) k (rw e l.invariant.filled));
    }

pub returns : goal.returns
returns c =
    let e : c.loop-i.i ≡ 0 = omega arith in
    (rw e at c.loop-i.invariant.costs, rw e at c.loop-i.invariant.filled)
