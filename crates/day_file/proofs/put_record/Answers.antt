-- A store and two copies.
use Prim.Native.Nat.{◌/◌, ◌%◌}
use mathlib.Core.Path.{◌≡◌, refl}
use native.Mathlib.Omega.{arith}
use lib.ListN.{length}
use Rattle.day_file.specs.File.{two}
use Rattle.day_file.proofs.Putting.{record_put}
use Rattle.day_file.proofs.put_record.Goals as goal

pub returns : goal.returns
returns c =
    let n = length c.args.text.now in
    let high : n / 256 % 256 ≡ n / 256 = omega (arith, c.requires.1) in
    rw (c.copy_from_slice.ensures.after, c.copy_whole.ensures, c.to_be_bytes.ensures, high) (record_put c.args.file.now (two n) c.args.text.now c.args.p 1 refl c.requires.0)
