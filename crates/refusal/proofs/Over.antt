-- Pieces written one behind the other: what a callee that was lent the tail says of its part, said of the whole.
-- Assumes nothing.
use Prim.Native.Nat.{ℕ, ◌-◌}
use mathlib.Core.List.{List, [], ◌++◌, append_assoc, append-nil}
use mathlib.Core.Path.{◌≡◌, ap, ◌∙◌}
use native.Mathlib.Omega.{arith}
use lib.ListN.{length, take, drop, length-append, length-drop, drop_of_length-le}
use lib.Seq.{take_all, take_at, drop_at, drop-drop}
use borrow.Rule.Slice.PartMut.{put_mid}
use Rattle.refusal.specs.Over.{over}

-- the tail from a on is all that is left
pub tail_is : (l : List ℕ) (a : ℕ) → take (length l - a) (drop a l) ≡ drop a l
tail_is l a = take_all (length l - a) (drop a l) (simp length-drop (omega arith))

-- with `done` written to the front, a callee wrote `more` to the front of the tail behind it
pub over_tail : (done more old l zs : List ℕ) (a : ℕ) → length done ≡ a → l ≡ over done old → zs ≡ over more (take (length l - a) (drop a l))
    → put_mid a (length l - a) l zs ≡ over (done ++ more) old
over_tail done more old l zs a h e f =
    let none : drop (length l - a) (drop a l) ≡ [] = drop_of_length-le (drop a l) {i = length l - a} (simp length-drop (omega arith)) in
    let front : take a l ≡ done = ap (take a) e ∙ take_at done (drop (length done) old) a h in
    let back : drop a l ≡ drop a old = ap (drop a) e ∙ drop_at done (drop (length done) old) a h ∙ ap (λ n. drop n old) h in
    rw (f, tail_is l a, none, append-nil, front, back, drop-drop, append_assoc, length-append, h)
