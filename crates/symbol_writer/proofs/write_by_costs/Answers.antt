-- The symbol in its size, and the work slice cleared.
use mathlib.Core.Bool.{true}
use mathlib.Core.List.{◌++◌}
use mathlib.Core.Path.{◌≡◌, sym, ap, ◌∙◌}
use native.Mathlib.Omega.{arith}
use lib.ListN.{length}
use Rattle.codeword.specs.Sizes.{is_capacity, capacities}
use Rattle.optimum.specs.Write.{choose}
use Rattle.symbol_writer.specs.Rows.{work_room}
use Rattle.symbol_writer.specs.Symbol.{zeros}
use Rattle.symbol_writer.proofs.Whole.{above_found, above_none, too_high, in_size_law, work_cleared}
use Rattle.symbol_writer.proofs.write_by_costs.Goals as goal

pub returns-in-Some-clause-lent : goal.returns-in-Some-clause-lent
returns-in-Some-clause-lent c =
    let above = above_found c.args.text.now c.in-Some.place (sym c.first_above.ensures ∙ c.in-Some.is) in
    rw (too_high c.args.text.now c.args.largest (length c.args.work.now) (length c.args.symbol.now) c.if-text-gt-LIMIT.false (omega (arith, above)))

pub returns : goal.returns
returns c =
    let all_low = above_none c.args.text.now (sym c.first_above.ensures ∙ c.in_default.is) in
    let permitted : is_capacity c.args.largest ≡ true = sym c.is_capacity.ensures ∙ c.if-not-is_capacity.false in
    let law = in_size_law c.args.text.now c.args.largest (length c.args.work.now) (length c.args.symbol.now) c.if-text-gt-LIMIT.false all_low permitted c.if-work-lt-WORK_ROOM.false in
    let W = c.write_within-answer.ensures in
    record {
      answer = rw law W.answer;
      output = rw law W.output;
      lent = rw law (c.clear.ensures ∙ ap (λ l. zeros work_room ++ l) W.rest ∙ sym (work_cleared (length c.args.symbol.now) c.args.text.now (choose capacities c.args.largest c.args.text.now) c.args.work.now));
    }
