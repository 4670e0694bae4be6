-- The check words are the only words of their number that make the list right: two such lists differ in no more words than there are
-- roots, and are right together, so they differ in nothing.
-- Assumes nothing.
use Prim.Native.Nat.{◌+◌, ◌≤◌, suc, zero, ℕ}
use lib.ListN.{length, length-append}
use mathlib.Core.List.{List, [], ◌++◌, ◌∷◌}
use mathlib.Core.Path.{◌∙◌, ◌≡◌, ap, ap₂, refl, sym}
use native.Mathlib.Omega.{arith}
use Rattle.std.proofs.lemmas.List.{append_cancel_left}
use Rattle.galois.proofs.Sums.{⊕-self}
use Rattle.galois.proofs.Values.{bytes_append, bytes_plus, length_plus, value_plus}
use Rattle.galois.proofs.Vandermonde.{nothing_same, right_nothing}
use Rattle.galois.specs.Field.{◌⊕◌, pow}
use Rattle.galois.specs.Polynomial.{Bytes, Right}
use Rattle.galois.specs.Words.{one, plus, weight}
use Rattle.check_words.proofs.Register.{bytes_check, check_right, length_check}
use Rattle.check_words.specs.Register.{check_words}

weight_most : (ws : List ℕ) → weight ws ≤ length ws
unfolding weight
weight_most [] = omega arith
weight_most (w ∷ ws) = omega (arith, one_most w, weight_most ws)
  where
    one_most : (w : ℕ) → one w ≤ 1
    one_most zero = omega arith
    one_most (suc w) = omega arith

weight_same : (ds a b : List ℕ) → weight (plus (ds ++ a) (ds ++ b)) ≡ weight (plus a b)
unfolding weight plus
weight_same [] a b = refl
weight_same (d ∷ ds) a b = ap₂ ◌+◌ (ap one (⊕-self d)) (weight_same ds a b) ∙ (let z : 0 + weight (plus a b) ≡ weight (plus a b) = omega arith in z)

pub check_only : (k : ℕ) (ds c : List ℕ) → length ds + k ≤ 255 → Bytes ds → Bytes c → length c ≡ k → Right k (ds ++ c) → c ≡ check_words k ds
check_only k ds c few bd bc l r =
    let g : List ℕ = check_words k ds in
    let lg : length g ≡ k = length_check k ds in
    let lc : length c ≡ length g = l ∙ sym lg in
    let a : List ℕ = ds ++ c in
    let b : List ℕ = ds ++ g in
    let ab : length a ≡ length b = omega (arith, length-append ds c, length-append ds g) in
    append_cancel_left ds c g
    (nothing_same a b ab
    (right_nothing k (plus a b) (omega (arith, length_plus a b ab, length-append ds g)) (bytes_plus a b (bytes_append ds c bd bc) (bytes_append ds g bd (bytes_check k ds)))
    (λ j h m. value_plus (pow j) a b ab ∙ ap₂ ◌⊕◌ (r j h m) (check_right k ds bd j h m) ∙ ⊕-self 0)
    (omega (arith, weight_same ds c g, weight_most (plus c g), length_plus c g lc))))
