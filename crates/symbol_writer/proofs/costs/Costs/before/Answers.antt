-- What its calls answer is, number by number, what `before` says.
use mathlib.Core.Path.{◌∙◌, ap}
use Rattle.symbol_writer.specs.declared.costs.Least.{Least}
use Rattle.symbol_writer.proofs.Rows.{digit_is, then_is, else_is, costs_is}
use Rattle.symbol_writer.proofs.costs.Costs.before.Goals as goal
use Rattle.symbol_writer.proofs.costs.Costs.before.Goals.{then-is_digit, else-is_digit, then-is_basic, else-is_basic}

abbrev first : Least × Least × Least → Least
first p = p.0

abbrev second : Least × Least × Least → Least
second p = p.1

abbrev third : Least × Least × Least → Least
third p = p.2

abbrev left : Least × Least → Least
left p = p.0

abbrev right : Least × Least → Least
right p = p.1

pub returns : goal.returns
returns c =
    costs_is c.args.c c.args.self
    (c.is_ascii_digit-is_digit.ensures.value ∙ digit_is c.args.c)
    c.is_basic-is_basic.ensures
    (elim c.if-is_digit.branch [ then-is_digit w ↦ then_is _ _ w.if-is_digit.true (ap left w.t-22-is) | else-is_digit w ↦ else_is _ _ w.if-is_digit.false (ap left w.t-22-is) ])
    (elim c.if-is_digit.branch [ then-is_digit w ↦ then_is _ _ w.if-is_digit.true (ap right w.t-22-is ∙ w.one_more.ensures) | else-is_digit w ↦ else_is _ _ w.if-is_digit.false (ap right w.t-22-is) ])
    (elim c.if-is_basic.branch [ then-is_basic w ↦ then_is _ _ w.if-is_basic.true (ap first w.t-31-is) | else-is_basic w ↦ else_is _ _ w.if-is_basic.false (ap first w.t-31-is) ])
    (elim c.if-is_basic.branch [ then-is_basic w ↦ then_is _ _ w.if-is_basic.true (ap second w.t-31-is) | else-is_basic w ↦ else_is _ _ w.if-is_basic.false (ap second w.t-31-is ∙ w.two_more.ensures) ])
    (elim c.if-is_basic.branch [ then-is_basic w ↦ then_is _ _ w.if-is_basic.true (ap third w.t-31-is) | else-is_basic w ↦ else_is _ _ w.if-is_basic.false (ap third w.t-31-is) ])
    (rw c.one_more-2.ensures at c.min-chars.ensures)
    c.one_more-lone.ensures
    c.min-values.ensures
    (rw c.one_more-3.ensures at c.min-ascii.ensures)
    (rw c.one_more-4.ensures at c.min-none.ensures)
    (rw c.one_more-5.ensures at c.min-filler.ensures)
    (rw c.min.ensures at c.two_more-two.ensures)
