-- What the code stores in the register, word by word, and how the register takes the data in.
-- Assumes nothing.
use Prim.Native.Nat.{◌+◌, ◌<◌, ◌≤◌, suc, ℕ}
use lib.Bits.{bit_xor}
use lib.ListN.{drop, drop_of_length-le, get_or, length, length-set, set, take}
use lib.Seq.{append_snoc, drop-cons, take_all}
use Rattle.std.proofs.lemmas.List.{take_more_set, drop-set-lt}
use mathlib.Core.List.{List, [], ◌++◌, ◌∷◌}
use mathlib.Core.Path.{◌∙◌, ◌≡◌, ap, refl, sym}
use native.Mathlib.Numerals.{add-one}
use native.Mathlib.Omega.{arith}
use Rattle.galois.specs.Field.{◌⊕◌, ◌⊗◌}
use Rattle.galois.specs.Words.{plus, scale}
use Rattle.check_words.specs.Register.{feed, feeds}

-- before the first word
pub feed_first : (g r : List ℕ) (d : ℕ) → 1 ≤ length r → plus (drop 1 r ++ (0 ∷ [])) (scale (bit_xor (get_or r 0 0) d) g) ≡ feed g r d
unfolding feed ◌⊕◌
feed_first g [] d h = absurd (omega arith)
feed_first g (x ∷ r) d h = refl

-- a word moved up and changed, and the next one's turn
pub feed_next : (a i m : ℕ) (r g : List ℕ) → i + 1 < length r → i < length g → m ≡ a ⊗ get_or g i 0 →
    let s = set r i (bit_xor (get_or r (i + 1) 0) m) in
    take (i + 1) s ++ plus (drop (i + 1 + 1) s ++ (0 ∷ [])) (scale a (drop (i + 1) g)) ≡ take i r ++ plus (drop (i + 1) r ++ (0 ∷ [])) (scale a (drop i g))
unfolding plus scale ◌⊕◌
feed_next a i m r g h k e =
    rw (
      take_more_set r i (bit_xor (get_or r (i + 1) 0) m) (omega arith),
      drop-set-lt (i + 1 + 1) r i (bit_xor (get_or r (i + 1) 0) m) (omega arith),
      drop-cons r (i + 1) 0 h,
      drop-cons g i 0 k,
      add-one i,
      add-one (suc i),
      e,
      append_snoc (take i r) (bit_xor (get_or r (suc i) 0) (a ⊗ get_or g i 0)) (plus (drop (suc (suc i)) r ++ (0 ∷ [])) (scale a (drop (suc i) g))),
    ) (ap (λ (j : ℕ). take i r ++ (bit_xor (get_or r (suc i) 0) (a ⊗ get_or g i 0) ∷ plus (drop (suc j) r ++ (0 ∷ [])) (scale a (drop (suc i) g)))) (sym (add-one i)))

-- the last word, behind which there is a zero
pub feed_last : (a i m : ℕ) (r g : List ℕ) → i + 1 ≡ length r → length g ≡ length r → m ≡ a ⊗ get_or g i 0
    → set r i m ≡ take i r ++ plus (drop (i + 1) r ++ (0 ∷ [])) (scale a (drop i g))
unfolding plus scale ◌⊕◌
feed_last a i m r g h k e =
    rw (
      drop_of_length-le r {i = i + 1} (omega arith),
      drop-cons g i 0 (omega arith),
      drop_of_length-le g {i = suc i} (omega arith),
      sym e,
    ) (sym (take_all (i + 1) (set r i m) (omega (arith, length-set r i m))) ∙ take_more_set r i m (omega arith))

-- a word taken in, and the next one's turn
pub feeds_next : (g r ws : List ℕ) (i : ℕ) → i < length ws → feeds g (feed g r (get_or ws i 0)) (drop (i + 1) ws) ≡ feeds g r (drop i ws)
unfolding feeds
feeds_next g r ws i h = rw (drop-cons ws i 0 h, add-one i) refl

pub feeds_end : (g r ws : List ℕ) (i : ℕ) → length ws ≤ i → feeds g r (drop i ws) ≡ r
unfolding feeds
feeds_end g r ws i h = rw (drop_of_length-le ws {i = i} h) refl
