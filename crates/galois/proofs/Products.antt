-- The laws of the product: those of sums, products and their order for every number, those of one below 256. The product respects sums in
-- each argument, digit by digit; a function that respects sums is known below 256 by its values at 1, 2, 4 .. 128; so commutativity is a
-- test of 64 products and associativity one of 512, computed.
-- Assumes nothing.
use Prim.Native.Nat.{◌%◌, ◌*◌, ◌+◌, ◌/◌, ◌<◌, suc, zero, ℕ}
use lib.Bits.{bit_xor, xor_block, xor_lt, xor_mod, xor_shr}
use lib.Dec.{T, eqb, eqb→eq}
use mathlib.Core.Bool.{Bool, ◌&&◌, true}
use mathlib.Core.List.{List, [], ◌∷◌}
use mathlib.Core.Path.{◌∙◌, ◌≡◌, ap, ap₂, refl, sym}
use native.Mathlib.Omega.{arith}
use Rattle.refusal.proofs.Tests.{and_left, and_right, at_below, below}
use Rattle.galois.proofs.Sums.{⊕-self, ⊕-swap, ⊕-zero-l, ⊕-zero-r}
use Rattle.galois.specs.Field.{◌⊕◌, ◌⊗◌, bits, keep, times2}

abbrev pub all : (ℕ → Bool) → List ℕ → Bool
all f [] = true
all f (p ∷ ps) = f p && all f ps

-- ---- digits
keep_sum : (d e a : ℕ) → d < 2 → e < 2 → keep (d ⊕ e) a ≡ keep d a ⊕ keep e a
unfolding ◌⊕◌
keep_sum zero e a hd he = refl
keep_sum (suc d) zero a hd he = ap (λ (n : ℕ). keep n a) (⊕-zero-r (suc d)) ∙ sym (⊕-zero-r a)
keep_sum (suc (suc d)) (suc e) a hd he = absurd (omega arith)
keep_sum (suc zero) (suc (suc e)) a hd he = absurd (omega arith)
keep_sum (suc zero) (suc zero) a hd he = sym (⊕-self a)

keep_⊕ : (d a b : ℕ) → keep d (a ⊕ b) ≡ keep d a ⊕ keep d b
keep_⊕ zero a b = sym (⊕-zero-l 0)
keep_⊕ (suc d) a b = refl

keep_odd : (a b v : ℕ) → keep ((a ⊕ b) % 2) v ≡ keep (a % 2) v ⊕ keep (b % 2) v
unfolding ◌⊕◌
keep_odd a b v = ap (λ (d : ℕ). keep d v) (xor_mod a b 1) ∙ keep_sum (a % 2) (b % 2) v (omega arith) (omega arith)

half_⊕ : (a b : ℕ) → (a ⊕ b) / 2 ≡ a / 2 ⊕ b / 2
unfolding ◌⊕◌
half_⊕ a b = xor_shr a b 1

-- ---- twice
double_xor : (a b : ℕ) → 2 * (a ⊕ b) ≡ 2 * a ⊕ 2 * b
unfolding ◌⊕◌
double_xor a b =
    let e : bit_xor (a * 2 + 0) (b * 2 + 0) ≡ bit_xor a b * 2 + 0 = xor_block 1 a b 0 0 (omega arith) (omega arith) in
    let f : a * 2 + 0 ≡ 2 * a = omega arith in
    let g : b * 2 + 0 ≡ 2 * b = omega arith in
    let h : bit_xor a b * 2 + 0 ≡ 2 * bit_xor a b = omega arith in
    sym h ∙ sym e ∙ ap₂ bit_xor f g

low_⊕ : (a b : ℕ) → (a ⊕ b) % 256 ≡ a % 256 ⊕ b % 256
unfolding ◌⊕◌
low_⊕ a b = xor_mod a b 8

top_⊕ : (a b : ℕ) → (a ⊕ b) / 128 ≡ a / 128 ⊕ b / 128
unfolding ◌⊕◌
top_⊕ a b = xor_shr a b 7

times2_⊕ : (a b : ℕ) → times2 (a ⊕ b) ≡ times2 a ⊕ times2 b
unfolding times2
times2_⊕ a b = ap₂ bit_xor (ap (λ (x : ℕ). x % 256) (double_xor a b) ∙ low_⊕ (2 * a) (2 * b)) (ap (λ (x : ℕ). keep (x % 2) 45) (top_⊕ a b) ∙ keep_odd (a / 128) (b / 128) 45)
    ∙ unfold ◌⊕◌ in ⊕-swap (2 * a % 256) (2 * b % 256) (keep (a / 128 % 2) 45) (keep (b / 128 % 2) 45)

keep_lt : (d a : ℕ) → a < 256 → keep d a < 256
keep_lt zero a h = omega arith
keep_lt (suc d) a h = h

times2_lt : (a : ℕ) → times2 a < 256
unfolding times2
times2_lt a = xor_lt 8 (2 * a % 256) (keep (a / 128 % 2) 45) (omega arith) (keep_lt (a / 128 % 2) 45 (omega arith))

-- ---- the product's digits
bits_right : (n a b c : ℕ) → bits n a (b ⊕ c) ≡ bits n a b ⊕ bits n a c
unfolding bits
bits_right zero a b c = sym (⊕-zero-l 0)
bits_right (suc n) a b c =
    ap₂ bit_xor (keep_odd b c a) (ap (bits n (times2 a)) (half_⊕ b c) ∙ bits_right n (times2 a) (b / 2) (c / 2))
    ∙ unfold ◌⊕◌ in ⊕-swap (keep (b % 2) a) (keep (c % 2) a) (bits n (times2 a) (b / 2)) (bits n (times2 a) (c / 2))

bits_left : (n a b c : ℕ) → bits n (a ⊕ b) c ≡ bits n a c ⊕ bits n b c
unfolding bits
bits_left zero a b c = sym (⊕-zero-l 0)
bits_left (suc n) a b c =
    ap₂ bit_xor (keep_⊕ (c % 2) a b) (ap (λ (x : ℕ). bits n x (c / 2)) (times2_⊕ a b) ∙ bits_left n (times2 a) (times2 b) (c / 2))
    ∙ unfold ◌⊕◌ in ⊕-swap (keep (c % 2) a) (keep (c % 2) b) (bits n (times2 a) (c / 2)) (bits n (times2 b) (c / 2))

bits_lt : (n a b : ℕ) → a < 256 → bits n a b < 256
unfolding bits
bits_lt zero a b h = omega arith
bits_lt (suc n) a b h = xor_lt 8 (keep (b % 2) a) (bits n (times2 a) (b / 2)) (keep_lt (b % 2) a h) (bits_lt n (times2 a) (b / 2) (times2_lt a))

pub ⊗-dist : (a b c : ℕ) → a ⊗ (b ⊕ c) ≡ a ⊗ b ⊕ a ⊗ c
unfolding ◌⊗◌
⊗-dist a b c = ap (bits 8 (a % 256)) (low_⊕ b c) ∙ bits_right 8 (a % 256) (b % 256) (c % 256)

pub ⊗-dist-r : (a b c : ℕ) → (a ⊕ b) ⊗ c ≡ a ⊗ c ⊕ b ⊗ c
unfolding ◌⊗◌
⊗-dist-r a b c = ap (λ (x : ℕ). bits 8 x (c % 256)) (low_⊕ a b) ∙ bits_left 8 (a % 256) (b % 256) (c % 256)

pub ⊗-lt : (a b : ℕ) → a ⊗ b < 256
unfolding ◌⊗◌
⊗-lt a b = bits_lt 8 (a % 256) (b % 256) (omega arith)

-- ---- a function that respects sums is known below 256 by its values at 1, 2, 4 .. 128
abbrev basis : List ℕ
basis = 1 ∷ 2 ∷ 4 ∷ 8 ∷ 16 ∷ 32 ∷ 64 ∷ 128 ∷ []

abbrev Adds : (ℕ → ℕ) → Type 0
Adds f = (a b : ℕ) → f (a ⊕ b) ≡ f a ⊕ f b

adds_zero : (f : ℕ → ℕ) → Adds f → f 0 ≡ 0
adds_zero f h = ap f (sym (⊕-self 0)) ∙ h 0 0 ∙ ⊕-self (f 0)

lin : (ℕ → ℕ) → List ℕ → ℕ → ℕ
lin f [] b = 0
lin f (p ∷ ps) b = keep (b % 2) (f p) ⊕ lin f ps (b / 2)

adds_keep : (f : ℕ → ℕ) → Adds f → (d a : ℕ) → f (keep d a) ≡ keep d (f a)
adds_keep f h zero a = adds_zero f h
adds_keep f h (suc d) a = refl

adds_lin : (f : ℕ → ℕ) → Adds f → (ps : List ℕ) (b : ℕ) → f (lin (λ x. x) ps b) ≡ lin f ps b
unfolding lin
adds_lin f h [] b = adds_zero f h
adds_lin f h (p ∷ ps) b = h (keep (b % 2) p) (lin (λ x. x) ps (b / 2)) ∙ ap₂ ◌⊕◌ (adds_keep f h (b % 2) p) (adds_lin f h ps (b / 2))

all_basis : T (below 256 (λ b. eqb (lin (λ x. x) basis b) b))
unfolding lin ◌⊕◌
all_basis = tt

of_basis : (b : ℕ) → b < 256 → lin (λ x. x) basis b ≡ b
of_basis b h = eqb→eq (lin (λ x. x) basis b) b (at_below 256 (λ b. eqb (lin (λ x. x) basis b) b) all_basis b h)

lin_same : (f g : ℕ → ℕ) (t : ℕ → Bool) → ((p : ℕ) → T (t p) → f p ≡ g p) → (ps : List ℕ) → T (all t ps) → (b : ℕ) → lin f ps b ≡ lin g ps b
unfolding lin
lin_same f g t h [] a b = refl
lin_same f g t h (p ∷ ps) a b = ap₂ (λ (x y : ℕ). keep (b % 2) x ⊕ y) (h p (and_left (t p) (all t ps) a)) (lin_same f g t h ps (and_right (t p) (all t ps) a) (b / 2))

same : (f g : ℕ → ℕ) → Adds f → Adds g → (t : ℕ → Bool) → ((p : ℕ) → T (t p) → f p ≡ g p) → T (all t basis) → (b : ℕ) → b < 256 → f b ≡ g b
same f g hf hg t h a b l =
    ap f (sym (of_basis b l)) ∙ adds_lin f hf basis b ∙ lin_same f g t h basis a b ∙ sym (adds_lin g hg basis b) ∙ ap g (of_basis b l)

all_comm : T (all (λ p. all (λ q. eqb (p ⊗ q) (q ⊗ p)) basis) basis)
unfolding ◌⊗◌ bits times2
all_comm = tt

low_low : (a : ℕ) → a % 256 % 256 ≡ a % 256
low_low a = omega arith

-- the product sees the last eight digits only
⊗-low : (a b : ℕ) → a ⊗ b ≡ (a % 256) ⊗ (b % 256)
unfolding ◌⊗◌
⊗-low a b = sym (ap₂ (bits 8) (low_low a) (low_low b))

pub ⊗-comm : (a b : ℕ) → a ⊗ b ≡ b ⊗ a
⊗-comm a b = ⊗-low a b ∙ small (a % 256) (b % 256) (omega arith) (omega arith) ∙ sym (⊗-low b a)
  where
    at : (p : ℕ) → T (all (λ q. eqb (p ⊗ q) (q ⊗ p)) basis) → (b : ℕ) → b < 256 → p ⊗ b ≡ b ⊗ p
    at p t = same (λ b. p ⊗ b) (λ b. b ⊗ p) (λ x y. ⊗-dist p x y) (λ x y. ⊗-dist-r x y p) (λ q. eqb (p ⊗ q) (q ⊗ p)) (λ q e. eqb→eq (p ⊗ q) (q ⊗ p) e) t

    small : (a b : ℕ) → a < 256 → b < 256 → a ⊗ b ≡ b ⊗ a
    small a b ha hb = same (λ a. a ⊗ b) (λ a. b ⊗ a) (λ x y. ⊗-dist-r x y b) (λ x y. ⊗-dist b x y) (λ p. all (λ q. eqb (p ⊗ q) (q ⊗ p)) basis) (λ p t. at p t b hb) all_comm a ha

all_assoc : T (all (λ p. all (λ q. all (λ r. eqb ((p ⊗ q) ⊗ r) (p ⊗ (q ⊗ r))) basis) basis) basis)
unfolding ◌⊗◌ bits times2
all_assoc = tt

assoc_pq : (p q : ℕ) → T (all (λ r. eqb ((p ⊗ q) ⊗ r) (p ⊗ (q ⊗ r))) basis) → (c : ℕ) → c < 256 → (p ⊗ q) ⊗ c ≡ p ⊗ (q ⊗ c)
assoc_pq p q =
    same (λ c. (p ⊗ q) ⊗ c) (λ c. p ⊗ (q ⊗ c)) (λ x y. ⊗-dist (p ⊗ q) x y) (λ x y. ap (λ (z : ℕ). p ⊗ z) (⊗-dist q x y) ∙ ⊗-dist p (q ⊗ x) (q ⊗ y))
    (λ r. eqb ((p ⊗ q) ⊗ r) (p ⊗ (q ⊗ r))) (λ r e. eqb→eq ((p ⊗ q) ⊗ r) (p ⊗ (q ⊗ r)) e)

assoc_p : (p : ℕ) → T (all (λ q. all (λ r. eqb ((p ⊗ q) ⊗ r) (p ⊗ (q ⊗ r))) basis) basis) → (b c : ℕ) → b < 256 → c < 256 → (p ⊗ b) ⊗ c ≡ p ⊗ (b ⊗ c)
assoc_p p t b c hb hc =
    same (λ b. (p ⊗ b) ⊗ c) (λ b. p ⊗ (b ⊗ c))
    (λ x y. ap (λ (z : ℕ). z ⊗ c) (⊗-dist p x y) ∙ ⊗-dist-r (p ⊗ x) (p ⊗ y) c)
    (λ x y. ap (λ (z : ℕ). p ⊗ z) (⊗-dist-r x y c) ∙ ⊗-dist p (x ⊗ c) (y ⊗ c))
    (λ q. all (λ r. eqb ((p ⊗ q) ⊗ r) (p ⊗ (q ⊗ r))) basis) (λ q e. assoc_pq p q e c hc) t b hb

assoc_low : (a b c : ℕ) → a < 256 → b < 256 → c < 256 → (a ⊗ b) ⊗ c ≡ a ⊗ (b ⊗ c)
assoc_low a b c ha hb hc =
    same (λ a. (a ⊗ b) ⊗ c) (λ a. a ⊗ (b ⊗ c))
    (λ x y. ap (λ (z : ℕ). z ⊗ c) (⊗-dist-r x y b) ∙ ⊗-dist-r (x ⊗ b) (y ⊗ b) c)
    (λ x y. ⊗-dist-r x y (b ⊗ c))
    (λ p. all (λ q. all (λ r. eqb ((p ⊗ q) ⊗ r) (p ⊗ (q ⊗ r))) basis) basis) (λ p e. assoc_p p e b c hb hc) all_assoc a ha

⊗-low-l : (a b : ℕ) → a ⊗ b ≡ (a % 256) ⊗ b
unfolding ◌⊗◌
⊗-low-l a b = sym (ap (λ (x : ℕ). bits 8 x (b % 256)) (low_low a))

⊗-low-r : (a b : ℕ) → a ⊗ b ≡ a ⊗ (b % 256)
unfolding ◌⊗◌
⊗-low-r a b = sym (ap (bits 8 (a % 256)) (low_low b))

pub ⊗-assoc : (a b c : ℕ) → (a ⊗ b) ⊗ c ≡ a ⊗ (b ⊗ c)
⊗-assoc a b c =
    ⊗-low-r (a ⊗ b) c ∙ ap (λ (x : ℕ). x ⊗ (c % 256)) (⊗-low a b)
    ∙ assoc_low (a % 256) (b % 256) (c % 256) (omega arith) (omega arith) (omega arith)
    ∙ sym (⊗-low-l a (b ⊗ c) ∙ ap (λ (x : ℕ). (a % 256) ⊗ x) (⊗-low b c))

-- the first of two factors goes past the second
pub ⊗-left-comm : (a b c : ℕ) → a ⊗ (b ⊗ c) ≡ b ⊗ (a ⊗ c)
⊗-left-comm a b c = sym (⊗-assoc a b c) ∙ ap (λ (x : ℕ). x ⊗ c) (⊗-comm a b) ∙ ⊗-assoc b a c

pub ⊗-zero-r : (a : ℕ) → a ⊗ 0 ≡ 0
⊗-zero-r a = adds_zero (λ x. a ⊗ x) (⊗-dist a)

pub ⊗-zero-l : (a : ℕ) → 0 ⊗ a ≡ 0
⊗-zero-l a = ⊗-comm 0 a ∙ ⊗-zero-r a

-- one
all_one : T (below 256 (λ b. eqb (1 ⊗ b) b))
unfolding ◌⊗◌ bits times2
all_one = tt

pub ⊗-one-l : (b : ℕ) → b < 256 → 1 ⊗ b ≡ b
⊗-one-l b h = eqb→eq (1 ⊗ b) b (at_below 256 (λ b. eqb (1 ⊗ b) b) all_one b h)

pub ⊗-one : (b : ℕ) → b < 256 → b ⊗ 1 ≡ b
⊗-one b h = ⊗-comm b 1 ∙ ⊗-one-l b h

-- the laws of the product that hold of every number
pub ruleset products = (⊗-dist, ⊗-dist-r, ⊗-assoc, ⊗-comm, ⊗-left-comm, ⊗-zero-l, ⊗-zero-r)
