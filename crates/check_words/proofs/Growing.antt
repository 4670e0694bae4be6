-- The generator's words with zeros behind them, word by word and a root at a time.
-- Assumes nothing.
use Prim.Native.Nat.{◌+◌, ◌-◌, ◌<◌, ◌≤◌, suc, zero, ℕ}
use lib.Bits.{bit_xor}
use lib.ListN.{drop, drop_of_length-le, get_or, length, replicate, set, take}
use lib.Seq.{append_snoc, drop-cons, take_all}
use Rattle.std.proofs.lemmas.List.{take_more_set, drop-set-lt}
use mathlib.Core.List.{List, [], ◌++◌, ◌∷◌, append-nil}
use mathlib.Core.Path.{◌∙◌, ◌≡◌, ap, ap₂, refl, sym}
use native.Mathlib.Numerals.{add-one}
use native.Mathlib.Omega.{arith}
use Rattle.galois.proofs.Powers.{power_is}
use Rattle.galois.proofs.Products.{⊗-zero-r}
use Rattle.galois.proofs.Sums.{⊕-zero-l}
use Rattle.galois.specs.Field.{◌⊕◌, ◌⊗◌, pow}
use Rattle.galois.specs.Tables.{element_of}
use Rattle.galois.specs.Words.{plus, scale}
use Rattle.check_words.specs.Generator.{coeffs, grow}

-- a word changed, and the next one's turn
pub grow_next : (x p i m : ℕ) (g : List ℕ) → i < length g → m ≡ x ⊗ p →
    let w = get_or g i 0 in let s = set g i (bit_xor w m) in take (i + 1) s ++ grow x w (drop (i + 1) s) ≡ take i g ++ grow x p (drop i g)
unfolding grow ◌⊕◌
grow_next x p i m g h e =
    rw (
      take_more_set g i (bit_xor (get_or g i 0) m) h,
      drop-set-lt (i + 1) g i (bit_xor (get_or g i 0) m) (omega arith),
      drop-cons g i 0 h,
      add-one i,
      e,
      append_snoc (take i g) (bit_xor (get_or g i 0) (x ⊗ p)) (grow x (get_or g i 0) (drop (suc i) g)),
    ) refl

pub grow_end : (x p i : ℕ) (g : List ℕ) → length g ≤ i → take i g ++ grow x p (drop i g) ≡ g
unfolding grow
grow_end x p i g h = rw (take_all i g h, drop_of_length-le g {i = i} h, append-nil g) refl

grow_zeros : (r m : ℕ) → grow r 0 (replicate m 0) ≡ replicate m 0
unfolding grow
grow_zeros r zero = refl
grow_zeros r (suc m) = ap₂ (λ (x : ℕ) (l : List ℕ). x ∷ l) (⊕-zero-l (r ⊗ 0) ∙ ⊗-zero-r r) (grow_zeros r m)

grow_plus : (r p m : ℕ) (c : List ℕ) → grow r p (c ++ (0 ∷ replicate m 0)) ≡ plus (c ++ (0 ∷ [])) (scale r (p ∷ c)) ++ replicate m 0
unfolding grow plus scale
grow_plus r p m [] = ap (λ (l : List ℕ). (0 ⊕ r ⊗ p) ∷ l) (grow_zeros r m)
grow_plus r p m (x ∷ c) = ap (λ (l : List ℕ). (x ⊕ r ⊗ p) ∷ l) (grow_plus r x m c)

grow_coeffs : (j m : ℕ) → grow (pow (suc j)) 1 (coeffs j ++ replicate (suc m) 0) ≡ coeffs (suc j) ++ replicate m 0
unfolding coeffs
grow_coeffs j m = grow_plus (pow (suc j)) 1 m (coeffs j)

-- n words with the generator of j roots in front
abbrev pub grown : (n j : ℕ) → List ℕ
grown n j = coeffs j ++ replicate (n - j) 0

pub grown_none : (n : ℕ) → replicate n 0 ≡ grown n 0
unfolding coeffs
grown_none n = let z : n ≡ n - 0 = omega arith in ap (λ (k : ℕ). replicate k 0) z

pub grown_more : (n j : ℕ) → 1 ≤ j → j ≤ n → n < 510 → grow (element_of j) 1 (grown n (j - 1)) ≡ grown n j
grown_more n j h k l =
    let s : n - (j - 1) ≡ suc (n - j) = omega arith in
    let t : j ≡ suc (j - 1) = omega arith in
    ap₂ (λ (y z : ℕ). grow y 1 (coeffs (j - 1) ++ replicate z 0)) (power_is j (omega arith) ∙ ap pow t) s
    ∙ grow_coeffs (j - 1) (n - j) ∙ ap (λ (z : ℕ). coeffs z ++ replicate (n - j) 0) (sym t)

pub grown_all : (n j : ℕ) → j ≡ n → grown n j ≡ coeffs n
grown_all n j e = let z : n - j ≡ 0 = omega arith in ap₂ (λ (a b : ℕ). coeffs a ++ replicate b 0) e z ∙ append-nil (coeffs n)
