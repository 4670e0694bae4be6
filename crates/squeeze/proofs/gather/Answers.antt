-- The trailer is read while the records move: it stands behind all of them until the last one has moved.
use Prim.Native.Nat.{◌+◌, ◌-◌}
use mathlib.Core.Path.{◌≡◌, ap, ◌∙◌}
use native.Mathlib.Omega.{arith}
use lib.ListN.{drop}
use lib.Seq.{paste}
use Rattle.std.proofs.Common.{rules}
use Rattle.day_file.proofs.Numbered.{known}
use Rattle.squeeze.proofs.Gathered.{none_gathered, begins_inside, fits_now, kept, passed, all_gathered}
use Rattle.squeeze.proofs.gather.Goals.{then-file-from-eq-LIVE, else-file-from-eq-LIVE}
use Rattle.squeeze.proofs.gather.Goals as goal

pub loop-i-preserved : goal.loop-i-preserved
loop-i-preserved c =
    let k = known _ _ _ (search rules) c.requires in
    elim c.if-file-from-eq-LIVE.branch [
      | then-file-from-eq-LIVE v ↦
          let from = c.start-from.result in
          let n = 3 + v.two_at-n.result in
          let e : from + n - from ≡ n = omega arith in
          let moved = v.copy_within.ensures.after ∙ ap (λ m. paste c.loop-i.file c.loop-i.to (drop from c.loop-i.file) m) e in
          rw (v.to-is, v.file-is) (kept _ _ _ _ k _ c.loop-i-test.true _ _ c.loop-i.invariant _ c.start-from.ensures.is v.if-file-from-eq-LIVE.true _ (ap (λ n. 3 + n) v.two_at-n.ensures.is) _ moved)
      | else-file-from-eq-LIVE v ↦ rw (v.to-is, v.file-is) (passed _ _ _ _ k _ c.loop-i-test.true _ _ c.loop-i.invariant _ c.start-from.ensures.is v.if-file-from-eq-LIVE.false)
    ]

pub loop-i-init : goal.loop-i-init
loop-i-init c = none_gathered _ _

pub start-from-requires : goal.start-from-requires
start-from-requires c =
    let k = known _ _ _ (search rules) c.requires in
    omega (arith, c.loop-i-test.true, c.loop-i.auto.file, k.size, k.within)

pub bounds-file-from : goal.bounds-file-from
bounds-file-from c = omega (arith, begins_inside _ _ _ _ (known _ _ _ (search rules) c.requires) _ c.loop-i-test.true _ _ c.loop-i.invariant _ (omega (arith, c.loop-i-test.true)) _ c.start-from.ensures.is)

pub two_at-n-requires : goal.two_at-n-requires
two_at-n-requires c = omega (arith, begins_inside _ _ _ _ (known _ _ _ (search rules) c.requires) _ c.loop-i-test.true _ _ c.loop-i.invariant _ (omega (arith, c.loop-i-test.true)) _ c.start-from.ensures.is)

pub copy_within-requires-clause-in_bounds : goal.copy_within-requires-clause-in_bounds
copy_within-requires-clause-in_bounds c = omega (arith, c.two_at-n.ensures.is, fits_now _ _ _ _ (known _ _ _ (search rules) c.requires) _ c.loop-i-test.true _ _ c.loop-i.invariant _ c.start-from.ensures.is)

pub copy_within-requires-clause-dest_in_bounds : goal.copy_within-requires-clause-dest_in_bounds
copy_within-requires-clause-dest_in_bounds c = omega (arith, c.two_at-n.ensures.is, fits_now _ _ _ _ (known _ _ _ (search rules) c.requires) _ c.loop-i-test.true _ _ c.loop-i.invariant _ c.start-from.ensures.is)

pub returns : goal.returns
returns c =
    let g = all_gathered _ _ _ _ (known _ _ _ (search rules) c.requires) _ _ _ c.loop-i-test.false c.loop-i.invariant in
    record { answer = g.0; front = g.1; behind = g.2 }
