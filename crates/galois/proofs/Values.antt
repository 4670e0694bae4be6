-- The value of a list of words at x: of two lists one behind the other, of a sum and of a multiple. By induction on the words.
-- Assumes nothing.
use Prim.Native.Nat.{suc, zero, ℕ}
use lib.ListN.{length, length-append, replicate}
use mathlib.Core.List.{List, [], ◌++◌, ◌∷◌}
use mathlib.Core.Path.{◌∙◌, ◌≡◌, ap, refl, sym}
use native.Mathlib.Omega.{arith}
use Rattle.galois.proofs.Powers.{up_suc, up_⊕}
use Rattle.galois.proofs.Products.{⊗-assoc, ⊗-dist, ⊗-dist-r, ⊗-lt, ⊗-zero-l, ⊗-zero-r}
use Rattle.galois.proofs.Sums.{⊕-assoc, ⊕-lt, ⊕-self, ⊕-swap, ⊕-zero-l, ⊕-zero-r}
use Rattle.galois.specs.Field.{◌⊕◌, ◌⊗◌, up}
use Rattle.galois.specs.Polynomial.{Bytes, horner, value_at}
use Rattle.galois.specs.Words.{plus, scale}

-- ---- lists of words
pub length_plus : (a b : List ℕ) → length a ≡ length b → length (plus a b) ≡ length b
unfolding plus
length_plus [] b h = refl
length_plus (x ∷ a) [] h = h
length_plus (x ∷ a) (y ∷ b) h = ap suc (length_plus a b (omega arith))

pub length_scale : (c : ℕ) (ws : List ℕ) → length (scale c ws) ≡ length ws
unfolding scale
length_scale c [] = refl
length_scale c (w ∷ ws) = ap suc (length_scale c ws)

pub snoc_length : (ws : List ℕ) (w : ℕ) → length (ws ++ (w ∷ [])) ≡ suc (length ws)
snoc_length ws w = omega (arith, length-append ws (w ∷ []))

-- ---- values
pub horner_append : (x v : ℕ) (a b : List ℕ) → horner x v (a ++ b) ≡ horner x (horner x v a) b
unfolding horner
horner_append x v [] b = refl
horner_append x v (w ∷ a) b = horner_append x (v ⊗ x ⊕ w) a b

pub horner_split : (x v : ℕ) (ws : List ℕ) → horner x v ws ≡ up x (length ws) v ⊕ horner x 0 ws
unfolding horner up
horner_split x v [] = sym (⊕-zero-r v)
horner_split x v (w ∷ ws) =
    horner_split x (v ⊗ x ⊕ w) ws
    ∙ ap (λ (z : ℕ). z ⊕ horner x 0 ws) (up_⊕ x (length ws) (v ⊗ x) w ∙ ap (λ (z : ℕ). z ⊕ up x (length ws) w) (sym (up_suc x (length ws) v)))
    ∙ ⊕-assoc (up x (suc (length ws)) v) (up x (length ws) w) (horner x 0 ws)
    ∙ ap (λ (z : ℕ). up x (suc (length ws)) v ⊕ z) (sym (horner_split x w ws) ∙ ap (λ (z : ℕ). horner x z ws) (sym (⊕-zero-l w) ∙ ap (λ (z : ℕ). z ⊕ w) (sym (⊗-zero-l x))))

pub horner_plus : (x u v : ℕ) (a b : List ℕ) → length a ≡ length b → horner x (u ⊕ v) (plus a b) ≡ horner x u a ⊕ horner x v b
unfolding horner plus
horner_plus x u v [] [] h = refl
horner_plus x u v [] (y ∷ b) h = absurd (omega arith)
horner_plus x u v (w ∷ a) [] h = absurd (omega arith)
horner_plus x u v (w ∷ a) (y ∷ b) h =
    ap (λ (z : ℕ). horner x z (plus a b)) (ap (λ (z : ℕ). z ⊕ (w ⊕ y)) (⊗-dist-r u v x) ∙ ⊕-swap (u ⊗ x) (v ⊗ x) w y)
    ∙ horner_plus x (u ⊗ x ⊕ w) (v ⊗ x ⊕ y) a b (omega arith)

pub value_plus : (x : ℕ) (a b : List ℕ) → length a ≡ length b → value_at x (plus a b) ≡ value_at x a ⊕ value_at x b
value_plus x a b h = ap (λ (z : ℕ). horner x z (plus a b)) (sym (⊕-self 0)) ∙ horner_plus x 0 0 a b h

pub horner_scale : (x c v : ℕ) (ws : List ℕ) → horner x (c ⊗ v) (scale c ws) ≡ c ⊗ horner x v ws
unfolding horner scale
horner_scale x c v [] = refl
horner_scale x c v (w ∷ ws) =
    ap (λ (z : ℕ). horner x z (scale c ws)) (ap (λ (z : ℕ). z ⊕ c ⊗ w) (⊗-assoc c v x) ∙ sym (⊗-dist c (v ⊗ x) w))
    ∙ horner_scale x c (v ⊗ x ⊕ w) ws

pub value_scale : (x c : ℕ) (ws : List ℕ) → value_at x (scale c ws) ≡ c ⊗ value_at x ws
value_scale x c ws = ap (λ (z : ℕ). horner x z (scale c ws)) (sym (⊗-zero-r c)) ∙ horner_scale x c 0 ws

pub value_cons : (x w : ℕ) (ws : List ℕ) → value_at x (w ∷ ws) ≡ horner x w ws
unfolding horner
value_cons x w ws = ap (λ (z : ℕ). horner x z ws) (ap (λ (z : ℕ). z ⊕ w) (⊗-zero-l x) ∙ ⊕-zero-l w)

pub horner_snoc : (x v : ℕ) (ws : List ℕ) → horner x v (ws ++ (0 ∷ [])) ≡ horner x v ws ⊗ x
unfolding horner
horner_snoc x v ws = horner_append x v ws (0 ∷ []) ∙ ⊕-zero-r (horner x v ws ⊗ x)

-- ---- bytes
pub bytes_plus : (a b : List ℕ) → Bytes a → Bytes b → Bytes (plus a b)
unfolding plus
bytes_plus [] b ha hb = hb
bytes_plus (x ∷ a) [] ha hb = ha
bytes_plus (x ∷ a) (y ∷ b) ha hb = (⊕-lt x y ha.0 hb.0, bytes_plus a b ha.1 hb.1)

pub bytes_scale : (c : ℕ) (ws : List ℕ) → Bytes (scale c ws)
unfolding scale
bytes_scale c [] = tt
bytes_scale c (w ∷ ws) = (⊗-lt c w, bytes_scale c ws)

pub bytes_snoc : (ws : List ℕ) → Bytes ws → Bytes (ws ++ (0 ∷ []))
bytes_snoc [] h = (omega arith, tt)
bytes_snoc (w ∷ ws) h = (h.0, bytes_snoc ws h.1)

pub bytes_zeros : (k : ℕ) → Bytes (replicate k 0)
bytes_zeros zero = tt
bytes_zeros (suc k) = (omega arith, bytes_zeros k)

pub bytes_append : (a b : List ℕ) → Bytes a → Bytes b → Bytes (a ++ b)
bytes_append [] b ha hb = hb
bytes_append (x ∷ a) b ha hb = (ha.0, bytes_append a b ha.1 hb)
