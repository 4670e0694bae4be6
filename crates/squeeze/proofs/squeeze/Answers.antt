-- No more records are live than there are.
use native.Mathlib.Omega.{arith}
use Rattle.std.proofs.Common.{rules}
use Rattle.day_file.proofs.Numbered.{known}
use Rattle.squeeze.specs.inner.Code.{scans_in}
use Rattle.squeeze.proofs.Live.{live_least_count}
use Rattle.squeeze.proofs.squeeze.Goals as goal

pub list_new-requires : goal.list_new-requires
list_new-requires c =
    let k = known _ _ _ (search rules) c.in_ok-day.ensures in
    let n = live_least_count (scans_in c.args.file.now c.args.len) in
    (omega (arith, c.if-old-live.false), omega (arith, n, c.count_live-live.ensures, k.count, k.size, k.fits))
