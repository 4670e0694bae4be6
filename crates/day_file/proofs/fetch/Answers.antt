-- The part that its place says.
use Prim.Native.Nat.{◌+◌, ◌-◌}
use mathlib.Core.Path.{◌≡◌, ap, ◌∙◌}
use native.Mathlib.Omega.{arith}
use lib.ListN.{take, drop}
use Rattle.std.proofs.Common.{rules}
use Rattle.day_file.proofs.Fetched.{fetched, not_fetched}
use Rattle.day_file.proofs.fetch.Goals as goal

pub overflow_add-result : goal.overflow_add-result
overflow_add-result c = omega (arith, (fetched c.args.file.now c.args.len c.args.number _ (search rules) c.in-Ok.ensures).0)

pub slice_bounds-result-end : goal.slice_bounds-result-end
slice_bounds-result-end c = (fetched c.args.file.now c.args.len c.args.number _ (search rules) c.in-Ok.ensures).0

pub returns-in-Ok : goal.returns-in-Ok
returns-in-Ok c =
    let p = c.in-Ok.placed in
    let e : p.start + p.length - p.start ≡ p.length = omega arith in
    ap (λ n. take n (drop p.start c.args.file.now)) e ∙ (fetched _ _ _ _ (search rules) c.in-Ok.ensures).1

pub returns-in-Err : goal.returns-in-Err
returns-in-Err c = not_fetched _ _ _ _ _ c.in-Err.ensures
