use mathlib.Core.Path.{ap, ap₂, sym, ◌∙◌}
use Rattle.std.proofs.Common.{arith, ◌≡◌, position}
use Rattle.std.proofs.lemmas.Result.{err_from_is_err_and}
use Rattle.refusal.specs.declared.Reason.TheVariants.{TypeNotCovered}
use Rattle.conformity.specs.inner.Code.{table_of_column, is_barred}
use Rattle.conformity.proofs.Whole.{judged, not_covered, covered}
use Rattle.conformity.proofs.conforms.Goals as goal

pub returns-in_err-column : goal.returns-in_err-column
returns-in_err-column c =
    let p = err_from_is_err_and c.from_residual.result c.from_residual.ensures.1 in
    let a = c.args in
    let fault : c.in_err-column.field-0.0 ≡ record { reason = TypeNotCovered; place = 0 } = grind arith in
    rw (p.1, p.2, fault) (not_covered a.type0 a.type1 a.fields.now (grind arith))

pub returns-in-Some : goal.returns-in-Some
returns-in-Some c =
    let a = c.args in
    let column = c.in_ok-column.column in
    rw c.at-in-Some.ensures
    (ap (λ o. judged o (position (is_barred (table_of_column column)) a.fields.now)) (sym c.in-Some.is ∙ c.first_lacking.ensures)
    ∙ covered a.type0 a.type1 column a.fields.now c.rows_of-there.result (grind arith) c.rows_of-there.ensures)

pub returns-in-Some-first_barred : goal.returns-in-Some-first_barred
returns-in-Some-first_barred c =
    let a = c.args in
    let column = c.in_ok-column.column in
    rw c.at-in-Some-first_barred.ensures
    (ap₂ judged (sym c.in_default.is ∙ c.first_lacking.ensures) (sym c.in-Some-first_barred.is ∙ c.first_barred.ensures)
    ∙ covered a.type0 a.type1 column a.fields.now c.rows_of-there.result (grind arith) c.rows_of-there.ensures)

pub returns : goal.returns
returns c =
    let a = c.args in
    let column = c.in_ok-column.column in
    ap₂ judged (sym c.in_default.is ∙ c.first_lacking.ensures) (sym c.in_default-first_barred.is ∙ c.first_barred.ensures)
    ∙ covered a.type0 a.type1 column a.fields.now c.rows_of-there.result (grind arith) c.rows_of-there.ensures
