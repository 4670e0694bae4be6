use mathlib.Core.Path.{sym, ◌∙◌}
use native.Mathlib.Omega.{arith}
use Rattle.symbol_writer.proofs.Choice.{capacity_low, too_large, with_pad, exactly, larger, none_left}
use Rattle.symbol_writer.proofs.sizes.Size.choose.Goals as goal

pub returns-then-largest-capacity : goal.returns-then-largest-capacity
returns-then-largest-capacity c t ef ex =
    too_large c.args.largest c.args.shortest c.args.full _ c.loop-capacity.capacity-index c.all_capacities-capacity-items.ensures c.loop-capacity-test.true c.if-largest-capacity.true t ef ex ∙ c.loop-capacity.invariant t ef ex

pub invariant_of-result : goal.invariant_of-result
invariant_of-result c = record { room = omega arith; most = capacity_low _ c.loop-capacity.capacity-index c.all_capacities-capacity-items.ensures c.loop-capacity-test.true }

pub returns-then-shortest-capacity : goal.returns-then-shortest-capacity
returns-then-shortest-capacity c t ef ex =
    with_pad c.args.largest c.args.shortest c.args.full _ c.loop-capacity.capacity-index c.all_capacities-capacity-items.ensures c.loop-capacity-test.true c.if-largest-capacity.false c.if-shortest-capacity.true t ef ex ∙ c.loop-capacity.invariant t ef ex

pub invariant_of-result-then-allows : goal.invariant_of-result-then-allows
invariant_of-result-then-allows c = record { room = omega arith; most = capacity_low _ c.loop-capacity.capacity-index c.all_capacities-capacity-items.ensures c.loop-capacity-test.true }

pub returns-then-allows : goal.returns-then-allows
returns-then-allows c t ef ex =
    exactly c.args.largest c.args.shortest c.args.full _ c.loop-capacity.capacity-index c.all_capacities-capacity-items.ensures c.loop-capacity-test.true c.if-largest-capacity.false c.if-shortest-capacity.false _ c.allows.ensures c.if-allows.true t ef ex ∙ c.loop-capacity.invariant t ef ex

pub loop-capacity-preserved : goal.loop-capacity-preserved
loop-capacity-preserved c t ef ex =
    sym (larger c.args.largest c.args.shortest c.args.full _ c.loop-capacity.capacity-index c.all_capacities-capacity-items.ensures c.loop-capacity-test.true c.if-largest-capacity.false c.if-shortest-capacity.false _ c.allows.ensures c.if-allows.false t ef ex) ∙ c.loop-capacity.invariant t ef ex

pub returns : goal.returns
returns c t ef ex = none_left c.args.largest c.args.shortest c.args.full _ c.loop-capacity.capacity-index c.all_capacities-capacity-items.ensures (omega arith) t ef ex ∙ c.loop-capacity.invariant t ef ex
