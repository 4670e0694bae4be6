-- At most m words at different places, zero at m consecutive powers, are all nothing: a word that is not nothing is taken out by
-- multiplying each other word by the difference of the places, which leaves one power and one word fewer. So a right list with no more
-- words than it has roots is nothing.
-- Assumes nothing.
use Prim.Native.Nat.{◌+◌, ◌<◌, ◌≤◌, suc, zero, ℕ}
use lib.ListN.{length}
use mathlib.Core.List.{List, [], ◌∷◌}
use mathlib.Core.Path.{◌∙◌, ◌≡◌, ap, ap₂, refl, subst, sym}
use native.Mathlib.Omega.{arith}
use Rattle.galois.proofs.Powers.{pow_lt, pow_one_one, pow_pos, up_nothing, up_swap, up_zero, up_⊗_r, ⊗-nothing}
use Rattle.galois.proofs.Products.{⊗-comm, ⊗-dist, ⊗-dist-r, ⊗-lt, ⊗-zero-l}
use Rattle.galois.proofs.Sums.{⊕-lt, ⊕-self, ⊕-swap, ⊕-zero-eq, ⊕-zero-l, ⊕-zero-r}
use Rattle.galois.proofs.Values.{horner_split, value_cons}
use Rattle.galois.specs.Field.{◌⊕◌, ◌⊗◌, pow, up}
use Rattle.galois.specs.Places.{locs}
use Rattle.galois.specs.Polynomial.{Bytes, Right, horner, value_at}
use Rattle.galois.specs.Words.{one, plus, weight}

-- the sum of c x^j over the words c and their places x
unfoldable pub psum : ℕ → List ℕ → List ℕ → ℕ
psum j [] cs = 0
psum j (x ∷ xs) [] = 0
psum j (x ∷ xs) (c ∷ cs) = up x j c ⊕ psum j xs cs

-- each word times f of its place
unfoldable pub weigh : (ℕ → ℕ) → List ℕ → List ℕ → List ℕ
weigh f [] cs = []
weigh f (y ∷ ys) [] = []
weigh f (y ∷ ys) (c ∷ cs) = (c ⊗ f y) ∷ weigh f ys cs

-- each word times the difference of its place and x
abbrev twist : ℕ → List ℕ → List ℕ → List ℕ
twist x ys cs = weigh (λ y. y ⊕ x) ys cs

abbrev pub Apart : ℕ → List ℕ → Type 0
Apart x [] = Unit {0}
Apart x (y ∷ ys) = (y ≡ x → ⊥) × (Apart x ys)

-- places: bytes, not zero, all different
abbrev pub Places : List ℕ → Type 0
Places [] = Unit {0}
Places (x ∷ xs) = (x < 256) × (x ≡ 0 → ⊥) × (Apart x xs) × (Places xs)

abbrev pub Nothing : List ℕ → Type 0
Nothing [] = Unit {0}
Nothing (c ∷ cs) = (c ≡ 0) × (Nothing cs)

psum_twist : (j x : ℕ) (ys cs : List ℕ) → psum j ys (twist x ys cs) ≡ psum (suc j) ys cs ⊕ psum j ys cs ⊗ x
unfolding psum weigh up
psum_twist j x [] cs = sym (ap (λ (z : ℕ). 0 ⊕ z) (⊗-zero-l x) ∙ ⊕-self 0)
psum_twist j x (y ∷ ys) [] = sym (ap (λ (z : ℕ). 0 ⊕ z) (⊗-zero-l x) ∙ ⊕-self 0)
psum_twist j x (y ∷ ys) (c ∷ cs) =
    ap₂ ◌⊕◌ (up_⊗_r y j (y ⊕ x) c ∙ ⊗-dist (up y j c) y x) (psum_twist j x ys cs)
    ∙ ⊕-swap (up y j c ⊗ y) (up y j c ⊗ x) (psum (suc j) ys cs) (psum j ys cs ⊗ x)
    ∙ ap (λ (z : ℕ). (up y j c ⊗ y ⊕ psum (suc j) ys cs) ⊕ z) (sym (⊗-dist-r (up y j c) (psum j ys cs) x))

one_⊗ : (c d : ℕ) → one (c ⊗ d) ≤ one c
one_⊗ zero d = subst (λ (z : ℕ). one z ≤ 0) (sym (⊗-zero-l d)) (omega arith)
one_⊗ (suc c) d = go (suc c ⊗ d)
  where
    go : (z : ℕ) → one z ≤ 1
    go zero = omega arith
    go (suc z) = omega arith

pub weight_weigh : (f : ℕ → ℕ) (ys cs : List ℕ) → weight (weigh f ys cs) ≤ weight cs
unfolding weight weigh
weight_weigh f [] cs = omega arith
weight_weigh f (y ∷ ys) [] = omega arith
weight_weigh f (y ∷ ys) (c ∷ cs) = omega (arith, one_⊗ c (f y), weight_weigh f ys cs)

pub bytes_weigh : (f : ℕ → ℕ) (ys cs : List ℕ) → Bytes (weigh f ys cs)
unfolding weigh
bytes_weigh f [] cs = tt
bytes_weigh f (y ∷ ys) [] = tt
bytes_weigh f (y ∷ ys) (c ∷ cs) = (⊗-lt c (f y), bytes_weigh f ys cs)

pub length_weigh : (f : ℕ → ℕ) (ys cs : List ℕ) → length cs ≡ length ys → length (weigh f ys cs) ≡ length ys
unfolding weigh
length_weigh f [] cs h = refl
length_weigh f (y ∷ ys) [] h = h
length_weigh f (y ∷ ys) (c ∷ cs) h = ap suc (length_weigh f ys cs (omega arith))

untwist : (x : ℕ) (ys cs : List ℕ) → length cs ≡ length ys → x < 256 → Apart x ys → Places ys → Bytes cs → Nothing (twist x ys cs) → Nothing cs
unfolding weigh
untwist x [] [] l hx ha hp hb h = tt
untwist x [] (c ∷ cs) l hx ha hp hb h = absurd (omega arith)
untwist x (y ∷ ys) [] l hx ha hp hb h = tt
untwist x (y ∷ ys) (c ∷ cs) l hx ha hp hb h = (
  ⊗-nothing (y ⊕ x) c (⊕-lt y x hp.0 hx) hb.0 (λ e. ha.0 (⊕-zero-eq y x e)) (⊗-comm (y ⊕ x) c ∙ h.0),
  untwist x ys cs (omega arith) hx ha.1 hp.3 hb.1 h.1,
)

psum_nothing : (j : ℕ) (xs cs : List ℕ) → Nothing cs → psum j xs cs ≡ 0
unfolding psum
psum_nothing j [] cs h = refl
psum_nothing j (x ∷ xs) [] h = refl
psum_nothing j (x ∷ xs) (c ∷ cs) h = ap₂ ◌⊕◌ (ap (up x j) h.0 ∙ up_zero x j) (psum_nothing j xs cs h.1) ∙ ⊕-self 0

-- where the first word is c and the sum is zero, the others' sum is c's part
others : (x c p j : ℕ) → up x j c ⊕ p ≡ 0 → p ≡ up x j c
others x c p j e = sym (⊕-zero-eq (up x j c) p e)

pub vandermonde : (xs cs : List ℕ) (m s : ℕ) → length cs ≡ length xs → Places xs → Bytes cs → weight cs ≤ m
    → ((j : ℕ) → s ≤ j → j < s + m → psum j xs cs ≡ 0) → Nothing cs
unfolding psum weight up
vandermonde [] [] m s l hp hb hw z = tt
vandermonde [] (c ∷ cs) m s l hp hb hw z = absurd (omega arith)
vandermonde (x ∷ xs) [] m s l hp hb hw z = tt
vandermonde (x ∷ xs) (zero ∷ cs) m s l hp hb hw z =
    (refl, vandermonde xs cs m s (omega arith) hp.3 hb.1 (omega arith) (λ j h k. sym (⊕-zero-l (psum j xs cs)) ∙ ap (λ (v : ℕ). v ⊕ psum j xs cs) (sym (up_zero x j)) ∙ z j h k))
vandermonde (x ∷ xs) (suc c ∷ cs) zero s l hp hb hw z = absurd (omega arith)
vandermonde (x ∷ xs) (suc c ∷ cs) (suc m) s l hp hb hw z =
    finish (vandermonde xs (twist x xs cs) m s (length_weigh (λ y. y ⊕ x) xs cs (omega arith)) hp.3 (bytes_weigh (λ y. y ⊕ x) xs cs) (omega (arith, weight_weigh (λ y. y ⊕ x) xs cs)) twisted)
  where
    twisted : (j : ℕ) → s ≤ j → j < s + m → psum j xs (twist x xs cs) ≡ 0
    twisted j h k =
        psum_twist j x xs cs
        ∙ ap₂ ◌⊕◌ (others x (suc c) (psum (suc j) xs cs) (suc j) (z (suc j) (omega arith) (omega arith)))
        (ap (λ (v : ℕ). v ⊗ x) (others x (suc c) (psum j xs cs) j (z j h (omega arith))))
        ∙ ⊕-self (up x j (suc c) ⊗ x)

    finish : Nothing (twist x xs cs) → Nothing (suc c ∷ cs)
    finish h =
        let n : Nothing cs = untwist x xs cs (omega arith) hp.0 hp.2 hp.3 hb.1 h in (
          up_nothing x s (suc c) hp.0 hb.0 hp.1
              (sym (⊕-zero-r (up x s (suc c))) ∙ ap (λ (v : ℕ). up x s (suc c) ⊕ v) (sym (psum_nothing s xs cs n)) ∙ z s (omega arith) (omega arith)),
          n,
        )

-- ---- the places of a list
pub length_locs : (n : ℕ) → length (locs n) ≡ n
unfolding locs
length_locs zero = refl
length_locs (suc n) = ap suc (length_locs n)

apart_locs : (m n : ℕ) → n ≤ m → m < 255 → Apart (pow m) (locs n)
unfolding locs
apart_locs m zero h k = tt
apart_locs m (suc n) h k = ((λ e. let d : n ≡ m = pow_one_one n m (omega arith) k e in omega arith), apart_locs m n (omega arith) k)

pub places_locs : (n : ℕ) → n ≤ 255 → Places (locs n)
unfolding locs
places_locs zero h = tt
places_locs (suc n) h = (pow_lt n, pow_pos n, apart_locs n n (omega arith) (omega arith), places_locs n (omega arith))

pub value_psum : (j : ℕ) (ws : List ℕ) → Bytes ws → value_at (pow j) ws ≡ psum j (locs (length ws)) ws
unfolding psum locs horner
value_psum j [] h = refl
value_psum j (w ∷ ws) h =
    value_cons (pow j) w ws ∙ horner_split (pow j) w ws
    ∙ ap₂ ◌⊕◌ (up_swap j (length ws) w h.0) (value_psum j ws h.1)

-- a right list with at most k words that are not nothing is nothing
pub right_nothing : (k : ℕ) (ws : List ℕ) → length ws ≤ 255 → Bytes ws → Right k ws → weight ws ≤ k → Nothing ws
right_nothing k ws l h r w =
    vandermonde (locs (length ws)) ws k 1 (sym (length_locs (length ws))) (places_locs (length ws) l) h w
    (λ j a b. sym (value_psum j ws h) ∙ r j a (omega arith))

pub nothing_same : (a b : List ℕ) → length a ≡ length b → Nothing (plus a b) → a ≡ b
unfolding plus
nothing_same [] [] h n = refl
nothing_same [] (y ∷ b) h n = absurd (omega arith)
nothing_same (x ∷ a) [] h n = absurd (omega arith)
nothing_same (x ∷ a) (y ∷ b) h n = ap₂ (λ (x : ℕ) (y : List ℕ). x ∷ y) (⊕-zero-eq x y n.0) (nothing_same a b (omega arith) n.1)
