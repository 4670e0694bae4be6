use lib.ListN.{length-replicate}
use Rattle.std.proofs.Common.{rules, false}
use Rattle.conformity.proofs.There.{none_there, all_there, one_more, no_row}
use Rattle.conformity.proofs.rows_of.Goals.{then-row-lt-ROW_COUNT, else-row-lt-ROW_COUNT}
use Rattle.conformity.proofs.rows_of.Goals as goal

pub loop-field-init : goal.loop-field-init
loop-field-init c = (length-replicate 110 false, none_there c.args.fields.now)

pub loop-field-preserved : goal.loop-field-preserved
loop-field-preserved c =
    let split = c.loop-field.invariant in
    elim c.if-row-lt-ROW_COUNT.branch [
      | then-row-lt-ROW_COUNT w ↦ rw w.there-is (search rules, one_more c.loop-field.there c.args.fields.now c.loop-field.field-index c.from-row.result split.1 c.loop-field-test.true c.from-row.ensures split.0 w.if-row-lt-ROW_COUNT.true)
      | else-row-lt-ROW_COUNT w ↦ rw w.there-is (split.0, no_row c.loop-field.there c.args.fields.now c.loop-field.field-index c.from-row.result split.1 c.loop-field-test.true c.from-row.ensures w.if-row-lt-ROW_COUNT.false)
    ]

pub returns : goal.returns
returns c = all_there c.loop-field.there c.args.fields.now c.loop-field.field-index c.loop-field.invariant.1 c.loop-field-test.false
