use Rattle.std.proofs.Common.{ℕ, ◌≡◌, ◌-◌, ◌∙◌, ap, sym, length, get_or, set, bit_xor, arith}
use Rattle.galois.specs.Field.{◌⊗◌}
use Rattle.check_words.proofs.Feeding.{feed_next, feed_last}
use Rattle.check_words.proofs.feed_one.Goals as goal

pub loop-i-preserved : goal.loop-i-preserved
loop-i-preserved c =
    let g = c.args.g.now in
    let r = c.loop-i.r in
    let i = c.loop-i.i in
    let a : ℕ = bit_xor (get_or c.args.r.now 0 0) c.args.d in
    let word : c.times.result ≡ a ⊗ get_or g i 0 = c.times.ensures ∙ ap (λ x. x ⊗ get_or g i 0) c.log_of-m.ensures.2 in
    feed_next a i c.times.result r g (omega (arith, c.loop-i-test.true, c.loop-i.auto.r)) (omega (arith, c.loop-i-test.true, c.requires.0)) word ∙ c.loop-i.invariant

pub returns : goal.returns
returns c =
    let g = c.args.g.now in
    let r = c.loop-i.r in
    let a : ℕ = bit_xor (get_or c.args.r.now 0 0) c.args.d in
    let last : c.loop-i.i ≡ length c.args.r.now - 1 = omega (arith, c.loop-i-test.false, c.loop-i.auto.i-end) in
    let word : c.times-2.result ≡ a ⊗ get_or g c.loop-i.i 0 = rw last (c.times-2.ensures ∙ ap (λ x. x ⊗ get_or g (length c.args.r.now - 1) 0) c.log_of-m.ensures.2) in
    ap (λ i. set r i c.times-2.result) (sym last)
    ∙ feed_last a c.loop-i.i c.times-2.result r g (omega (arith, last, c.loop-i.auto.r, c.requires.1)) (omega (arith, c.loop-i.auto.r, c.requires.0)) word ∙ c.loop-i.invariant
