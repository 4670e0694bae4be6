use Rattle.std.proofs.Common.{arith}
use Rattle.std.proofs.lemmas.Grind.{common_steps}
use Rattle.text_reader.proofs.Zones.{marks_none, marks_more}
use Rattle.text_reader.proofs.read_zone.Goals as goal

pub loop-p-init : goal.loop-p-init
loop-p-init c = (c.requires.0, grind arith, grind (arith, common_steps), marks_none _ (grind arith), grind arith)

pub loop-p-preserved : goal.loop-p-preserved
loop-p-preserved c =
    let l = c.loop-p in (
      grind arith,
      grind (arith, common_steps),
      grind (arith, common_steps),
      rw (c.push.ensures.items, c.from.ensures) (marks_more l.used l.fields.items c.in_ok-x.x.field (grind arith) l.invariant.3),
      grind (arith, common_steps),
    )
