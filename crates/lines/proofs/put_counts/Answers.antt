-- With each turn one line more stands at the front.
use Prim.Native.Nat.{◌+◌}
use mathlib.Core.Path.{refl, sym, ap, ◌∙◌}
use native.Mathlib.Omega.{arith}
use lib.ListN.{length, get_or, take, length-append}
use Rattle.day_file.specs.Pieces.{put_at}
use Rattle.day_file.proofs.Putting.{put_none}
use Rattle.lines.specs.Lines.{line_of, lines_of}
use Rattle.lines.proofs.Joined.{Words, next_put, lines_more, lines_room}
use Rattle.lines.proofs.put_counts.Goals as goal

pub loop-slot-init : goal.loop-slot-init
unfolding lines_of
loop-slot-init c = (refl, sym (put_none c.args.out.now 0), refl)

pub put_line-at-requires : goal.put_line-at-requires
put_line-at-requires c =
    let l = c.args.counts.now in
    let i = c.loop-slot.slot in
    let words : Words l = λ j. omega (arith, c.type_inv.counts j) in
    let more = lines_more l i c.loop-slot-test.true in
    omega (arith, c.requires, c.loop-slot.invariant, lines_room l (i + 1) words c.requires.0, ap length more, length-append (lines_of 0 (take i l)) (line_of i (get_or l i 0)))

pub loop-slot-preserved : goal.loop-slot-preserved
loop-slot-preserved c =
    let l = c.args.counts.now in
    let i = c.loop-slot.slot in
    let w = c.put_line-at in
    let words : Words l = λ j. omega (arith, c.type_inv.counts j) in
    let more = lines_more l i c.loop-slot-test.true in
    let u = lines_of 0 (take i l) in
    let v = line_of i (get_or l i 0) in (
      omega (arith, c.loop-slot.invariant.0, w.ensures.end, ap length more, length-append u v),
      next_put c.args.out.now 0 u v c.loop-slot.out w.new.out c.loop-slot.at c.loop-slot.invariant.1 (omega (arith, c.loop-slot.invariant.0)) w.ensures.lent (omega (arith, c.requires, lines_room l (i + 1) words c.requires.0, ap length more)) ∙ ap (put_at c.args.out.now 0) (sym more),
      omega (arith, w.auto.out, c.loop-slot.invariant.2),
    )

pub returns-clause-small : goal.returns-clause-small
returns-clause-small c =
    let words : Words c.args.counts.now = λ j. omega (arith, c.type_inv.counts j) in
    omega (arith, c.loop-slot.invariant.0, lines_room c.args.counts.now c.loop-slot.slot words c.requires.0)
