-- The record of a turn stands before the trailer, so its length can be read when its start is put.
use Prim.Native.Nat.{ℕ, ◌+◌, ◌*◌, ◌≤◌}
use mathlib.Core.Path.{◌≡◌}
use native.Mathlib.Omega.{arith}
use Rattle.day_file.specs.File.{most_bytes}
use Rattle.day_file.proofs.Trailing.{none_put, turn_fits, turn_more, turn_end}
use Rattle.day_file.proofs.put_trailer.Goals as goal

-- a slice as long as a whole file has room for the trailer
roomy : (t count long : ℕ) → t + 4 * count + 8 ≤ most_bytes → most_bytes ≤ long → t + 4 * count + 8 ≤ long
roomy t count long h k = omega arith

pub loop-i-init : goal.loop-i-init
loop-i-init c = none_put _ _ _ c.requires.0 (roomy _ _ _ c.requires.1 c.requires.2)

pub put_four-requires : goal.put_four-requires
put_four-requires c =
    let room = roomy _ _ _ c.requires.1 c.requires.2 in
    omega (arith, room, c.loop-i.auto.file, turn_fits _ _ _ c.requires.0 room _ c.loop-i-test.true _ _ c.loop-i.invariant)

pub overflow_add-at : goal.overflow_add-at
overflow_add-at c =
    let room = roomy _ _ _ c.requires.1 c.requires.2 in
    omega (arith, c.requires.1, turn_fits _ _ _ c.requires.0 room _ c.loop-i-test.true _ _ c.loop-i.invariant)

pub two_at-requires : goal.two_at-requires
two_at-requires c =
    let room = roomy _ _ _ c.requires.1 c.requires.2 in
    omega (arith, room, c.loop-i.auto.file, c.put_four.auto.s, turn_fits _ _ _ c.requires.0 room _ c.loop-i-test.true _ _ c.loop-i.invariant)

pub overflow_add-at-in-loop-i-2 : goal.overflow_add-at-in-loop-i-2
overflow_add-at-in-loop-i-2 c =
    let room = roomy _ _ _ c.requires.1 c.requires.2 in
    omega (arith, c.requires.1, c.two_at.ensures.small, turn_fits _ _ _ c.requires.0 room _ c.loop-i-test.true _ _ c.loop-i.invariant)

pub loop-i-preserved : goal.loop-i-preserved
loop-i-preserved c =
    let room = roomy _ _ _ c.requires.1 c.requires.2 in
    turn_more _ _ _ c.requires.0 room _ c.loop-i-test.true _ _ c.loop-i.invariant _ c.put_four.ensures _ c.two_at.ensures.is

pub returns : goal.returns
returns c =
    let o = c.loop-i in
    let room = roomy _ _ _ c.requires.1 c.requires.2 in
    let all : o.i ≡ c.args.count = omega (arith, o.auto.i-end, c.loop-i-test.false) in
    turn_end _ _ _ c.requires.0 room o.i all o.file c.put_four-2.new.s c.put_four-3.new.s o.invariant.1 c.put_four-2.ensures c.put_four-3.ensures
