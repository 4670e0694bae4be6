use Rattle.std.proofs.Common.{arith, rules, ◌≡◌, ◌≤◌, ◌+◌, ◌-◌, ◌*◌, ◌/◌, ap, sym, ◌∙◌, ◌++◌, [], length, take, drop, get_or, length-take}
use borrow.Rule.Slice.PartMut.{put_mid}
use Rattle.base32.specs.Base32.{encoded}
use Rattle.base32.proofs.Groups.{group_at, encoded_more, encoded_last, put_behind, written_over, length_encoded}
use Rattle.base32.proofs.write_base32.Goals as goal

pub loop-i-preserved : goal.loop-i-preserved
loop-i-preserved c =
    let l = c.args.bytes.now in
    let i = c.loop-i.i in
    let o = c.loop-i.invariant in
    let n : 5 * i + 5 ≤ length l = omega (arith, c.as_chunks.ensures.front_len) in
    let whole = encoded_more l (take (8 * i) c.loop-i.out) c.write_group.result _ i o.whole n
    (ap (λ z. get_or z i []) c.as_chunks.ensures.front ∙ group_at 5 (length l / 5) i l [] (omega (arith, c.as_chunks.ensures.front_len))) c.write_group.ensures in
    let long : length c.copy_from_slice.new.self ≡ 8 * i + 8 - 8 * i = search rules in
    let put = put_behind c.loop-i.out c.args.out.now c.copy_from_slice.new.self (8 * i) (8 * (i + 1)) (8 * i + 8 - 8 * i) (omega arith) long (omega arith) o.behind in
    record { whole = ap (λ z. z ++ encoded (drop (5 * (i + 1)) l)) (put.0 ∙ ap (λ z. take (8 * i) c.loop-i.out ++ z) c.copy_from_slice.ensures.after) ∙ whole; behind = put.1 }

pub returns : goal.returns
returns c =
    let l = c.args.bytes.now in
    let o = c.loop-i.invariant in
    let out = c.loop-i.out in
    let z = c.copy_from_slice-3.new.self in
    let at = 8 * length c.as_chunks.result.0.now in
    let k = (8 * length c.as_chunks.result.1.now + 4) / 5 in
    let i : c.loop-i.i ≡ length c.as_chunks.result.0.now = omega arith in
    let p : 5 * c.loop-i.i ≡ length l / 5 * 5 = omega (arith, c.as_chunks.ensures.front_len) in
    let at_end : take at out ++ encoded (drop (length l / 5 * 5) l) ≡ encoded l = (λ j. take (8 * sym i j) out ++ encoded (drop (sym p j) l)) ∙ o.whole in
    let whole = encoded_last l (take at out) c.write_group-2.result _ _ (length l / 5 * 5) at_end c.as_chunks.ensures.back (omega (arith, c.as_chunks.ensures.back_len)) c.copy_from_slice-2.ensures.after c.write_group-2.ensures in
    let long : length z ≡ at + k - at = search rules in
    let put = put_behind out c.args.out.now z at (at + k) (at + k - at) (omega (arith, c.as_chunks.ensures.front_len)) long (omega arith) (ap (λ j. drop (8 * j) out) (sym i) ∙ o.behind ∙ ap (λ j. drop (8 * j) c.args.out.now) i) in
    let all : take (at + k) (put_mid at (at + k - at) out z) ≡ encoded l = put.0 ∙ ap (λ x. take at out ++ x) c.copy_from_slice-3.ensures.after ∙ whole in
    written_over l (put_mid at (at + k - at) out z) c.args.out.now (at + k)
    (omega (arith, ap length all, length-take (at + k) (put_mid at (at + k - at) out z), length_encoded l, c.as_chunks.ensures.front_len, c.as_chunks.ensures.back_len)) all put.1
