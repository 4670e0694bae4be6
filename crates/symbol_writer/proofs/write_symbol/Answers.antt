-- What the costs give is what is promised.
use mathlib.Core.Path.{◌∙◌}
use lib.ListN.{length}
use Rattle.symbol_writer.proofs.Promise.{promised, left_as_promised}
use Rattle.symbol_writer.proofs.write_symbol.Goals as goal

pub returns : goal.returns
returns c =
    let a = c.args in
    record {
      says = promised a.text.now a.largest a.symbol.now _ _ (length a.work.now) c.write_by_costs.ensures.answer c.write_by_costs.ensures.output;
      lent = c.write_by_costs.ensures.lent ∙ left_as_promised a.text.now a.largest (length a.symbol.now) a.work.now;
    }
