use Rattle.std.proofs.Common.{arith}
use Rattle.std.proofs.lemmas.Grind.{common_steps}
use Rattle.std.proofs.lemmas.Option.{gets}
use Rattle.conformity.proofs.Marks.{mark_there, mark_past}
use Rattle.conformity.proofs.Column.mark.Goals as goal

pub returns-in-Some : goal.returns-in-Some
returns-in-Some c = rw c.number.ensures.value (mark_there c.all_marks.result.now c.all_marks.ensures c.args.self c.args.row c.in-Some.marks.now (grind (arith, common_steps, gets)))

pub returns-in-None : goal.returns-in-None
returns-in-None c = mark_past c.all_marks.result.now c.all_marks.ensures c.args.self c.args.row (grind (arith, common_steps, gets))
