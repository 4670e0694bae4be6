-- A record that is live adds its number; there is room, since the list has an entry for each live one.
use mathlib.Core.Path.{sym, ap, ◌∙◌}
use native.Mathlib.Omega.{arith}
use lib.ListN.{length}
use Rattle.std.proofs.Common.{rules}
use Rattle.refusal.specs.Over.{over}
use Rattle.day_file.proofs.Numbered.{known, entry_fits, starts_at}
use Rattle.squeeze.proofs.Live.{no_old, number_fits, number_put, old_out}
use Rattle.squeeze.proofs.list_old.Goals.{then-file-at-eq-LIVE, else-file-at-eq-LIVE}
use Rattle.squeeze.proofs.list_old.Goals as goal

pub loop-i-init : goal.loop-i-init
loop-i-init c = (sym (ap length no_old), sym (ap (λ l. over l c.args.old.now) no_old))

pub start-at-requires : goal.start-at-requires
start-at-requires c = (entry_fits _ _ _ _ (known _ _ _ (search rules) c.requires.0) _ c.loop-i-test.true).0

pub bounds-file-at : goal.bounds-file-at
bounds-file-at c =
    let w = starts_at _ _ _ _ (known _ _ _ (search rules) c.requires.0) _ c.loop-i-test.true _ c.start-at.ensures.is in
    omega (arith, w.room)

pub overflow_cast-old : goal.overflow_cast-old
overflow_cast-old c = omega (arith, entry_fits _ _ _ _ (known _ _ _ (search rules) c.requires.0) _ c.loop-i-test.true)

pub bounds-old-j : goal.bounds-old-j
bounds-old-j c =
    let w = starts_at _ _ _ _ (known _ _ _ (search rules) c.requires.0) _ c.loop-i-test.true _ c.start-at.ensures.is in
    omega (arith, number_fits _ _ w.low (sym w.state ∙ c.if-file-at-eq-LIVE.true) _ c.requires.1 _ _ c.loop-i.invariant, c.loop-i.auto.old)

pub loop-i-preserved : goal.loop-i-preserved
loop-i-preserved c =
    let w = starts_at _ _ _ _ (known _ _ _ (search rules) c.requires.0) _ c.loop-i-test.true _ c.start-at.ensures.is in
    let o = c.loop-i.invariant in
    elim c.if-file-at-eq-LIVE.branch [
      | then-file-at-eq-LIVE v ↦ let e = number_put _ _ w.low (sym w.state ∙ v.if-file-at-eq-LIVE.true) _ c.requires.1 _ _ o in (v.j-is ∙ e.0, v.old-is ∙ e.1)
      | else-file-at-eq-LIVE v ↦
          let e = sym (old_out _ _ w.low (λ q. v.if-file-at-eq-LIVE.false (w.state ∙ q))) in
          (v.j-is ∙ o.0 ∙ ap length e, v.old-is ∙ o.1 ∙ ap (λ l. over l c.args.old.now) e)
    ]
