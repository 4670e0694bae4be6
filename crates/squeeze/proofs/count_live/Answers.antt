-- The record of a turn stands where the trailer says, with its state first.
use mathlib.Core.Path.{sym, ap, ◌∙◌}
use native.Mathlib.Omega.{arith}
use lib.ListN.{length}
use Rattle.std.proofs.Common.{rules}
use Rattle.day_file.proofs.Numbered.{known, entry_fits, starts_at}
use Rattle.squeeze.proofs.Live.{no_live, count_in, live_out}
use Rattle.squeeze.proofs.count_live.Goals.{then-file-at-eq-LIVE, else-file-at-eq-LIVE}
use Rattle.squeeze.proofs.count_live.Goals as goal

pub loop-i-init : goal.loop-i-init
loop-i-init c = (omega arith, sym (ap length no_live))

pub start-at-requires : goal.start-at-requires
start-at-requires c = (entry_fits _ _ _ _ (known _ _ _ (search rules) c.requires) _ c.loop-i-test.true).0

pub bounds-file-at : goal.bounds-file-at
bounds-file-at c =
    let w = starts_at _ _ _ _ (known _ _ _ (search rules) c.requires) _ c.loop-i-test.true _ c.start-at.ensures.is in
    omega (arith, w.room)

pub loop-i-preserved : goal.loop-i-preserved
loop-i-preserved c =
    let w = starts_at _ _ _ _ (known _ _ _ (search rules) c.requires) _ c.loop-i-test.true _ c.start-at.ensures.is in
    let o = c.loop-i.invariant in
    elim c.if-file-at-eq-LIVE.branch [
      | then-file-at-eq-LIVE v ↦ let e = count_in _ _ w.low (sym w.state ∙ v.if-file-at-eq-LIVE.true) in (omega (arith, v.n-is, o), omega (arith, v.n-is, o, e))
      | else-file-at-eq-LIVE v ↦ let e = ap length (live_out _ _ w.low (λ q. v.if-file-at-eq-LIVE.false (w.state ∙ q))) in (omega (arith, v.n-is, o), omega (arith, v.n-is, o, e))
    ]
