-- The generator of k check words is zero at each of its k roots: one root more is P x + r P, which is zero at r and where P is.
-- Assumes nothing.
use Prim.Native.Nat.{◌≤◌, suc, zero, ℕ}
use borrow.Author.Tests.{eqb-false, eqb-true}
use lib.Dec.{eqb}
use lib.ListN.{length}
use mathlib.Core.Bool.{Bool, false, true}
use mathlib.Core.List.{List, [], ◌++◌, ◌∷◌}
use mathlib.Core.Path.{◌∙◌, ◌≡◌, ap, ap₂, refl, sym}
use native.Mathlib.Omega.{arith}
use Rattle.galois.proofs.Products.{⊗-comm, ⊗-zero-l, ⊗-zero-r}
use Rattle.galois.proofs.Sums.{⊕-self, ⊕-zero-r}
use Rattle.galois.proofs.Values.{horner_plus, horner_snoc, length_plus, length_scale, snoc_length, value_cons, value_scale}
use Rattle.galois.specs.Field.{◌⊕◌, ◌⊗◌, pow}
use Rattle.galois.specs.Polynomial.{horner}
use Rattle.galois.specs.Words.{plus, scale}
use Rattle.check_words.specs.Generator.{coeffs}

pub length_coeffs : (k : ℕ) → length (coeffs k) ≡ k
unfolding coeffs
length_coeffs zero = refl
length_coeffs (suc k) =
    length_plus (coeffs k ++ (0 ∷ [])) (scale (pow (suc k)) (1 ∷ coeffs k)) (snoc_length (coeffs k) 0 ∙ sym (length_scale (pow (suc k)) (1 ∷ coeffs k)))
    ∙ length_scale (pow (suc k)) (1 ∷ coeffs k) ∙ ap suc (length_coeffs k)

-- one root more
more : (x r : ℕ) (c : List ℕ) → horner x 1 (plus (c ++ (0 ∷ [])) (scale r (1 ∷ c))) ≡ horner x 1 c ⊗ x ⊕ r ⊗ horner x 1 c
more x r c =
    ap (λ (z : ℕ). horner x z (plus (c ++ (0 ∷ [])) (scale r (1 ∷ c)))) (sym (⊕-zero-r 1))
    ∙ horner_plus x 1 0 (c ++ (0 ∷ [])) (scale r (1 ∷ c)) (snoc_length c 0 ∙ sym (length_scale r (1 ∷ c)))
    ∙ ap₂ ◌⊕◌ (horner_snoc x 1 c) (value_scale x r (1 ∷ c) ∙ ap (λ (z : ℕ). r ⊗ z) (value_cons x 1 c))

pub root : (k j : ℕ) → 1 ≤ j → j ≤ k → horner (pow j) 1 (coeffs k) ≡ 0
unfolding coeffs
root zero j h l = absurd (omega arith)
root (suc k) j h l = more (pow j) (pow (suc k)) (coeffs k) ∙ go (eqb j (suc k)) refl (λ m. root k j h m)
  where
    go : (b : Bool) → eqb j (suc k) ≡ b → (j ≤ k → horner (pow j) 1 (coeffs k) ≡ 0) → horner (pow j) 1 (coeffs k) ⊗ pow j ⊕ pow (suc k) ⊗ horner (pow j) 1 (coeffs k) ≡ 0
    go true e ih =
        ap (λ (z : ℕ). horner (pow j) 1 (coeffs k) ⊗ pow j ⊕ z) (ap (λ (z : ℕ). pow z ⊗ horner (pow j) 1 (coeffs k)) (sym (eqb-true j (suc k) e)) ∙ ⊗-comm (pow j) (horner (pow j) 1 (coeffs k)))
        ∙ ⊕-self (horner (pow j) 1 (coeffs k) ⊗ pow j)
    go false e ih =
        let n : j ≡ suc k → ⊥ = eqb-false j (suc k) e in
        let z : horner (pow j) 1 (coeffs k) ≡ 0 = ih (omega arith) in
        ap₂ ◌⊕◌ (ap (λ (v : ℕ). v ⊗ pow j) z ∙ ⊗-zero-l (pow j)) (ap (λ (v : ℕ). pow (suc k) ⊗ v) z ∙ ⊗-zero-r (pow (suc k))) ∙ ⊕-self 0
