-- Powers: of any element, and of 2, which meet every element but 0; so nothing but 0 has a product 0. The tables are tied to the
-- definitions by tests that are computed: each power is the one before times 2, and powers and logarithms undo each other.
-- Assumes nothing.
use Prim.Native.Nat.{◌*◌, ◌+◌, ◌-◌, ◌<◌, ◌≤◌, suc, zero, ℕ}
use borrow.Author.Tests.{eq-eqb, eqb-true, lt-ltb, ltb-true}
use lib.Dec.{T, eqb, eqb→eq, ltb}
use lib.ListN.{get_or}
use mathlib.Core.Bool.{Bool, ◌&&◌, ◌||◌, false, true}
use mathlib.Core.Path.{◌∙◌, ◌≡◌, ap, ap₂, refl, sym}
use native.Mathlib.Nat.{mul_comm, mul-suc, mul-zero}
use native.Mathlib.Omega.{arith}
use Rattle.refusal.proofs.Binds.{by_or, or_right}
use Rattle.refusal.proofs.Tests.{and_left, and_right, at_below, below}
use Rattle.galois.proofs.Products.{⊗-assoc, ⊗-comm, ⊗-dist-r, ⊗-lt, ⊗-one, ⊗-one-l, ⊗-zero-l, ⊗-zero-r}
use Rattle.galois.specs.Field.{◌⊕◌, ◌⊗◌, bits, pow, times2, up}
use Rattle.galois.specs.Tables.{element_of, inv, is_log, logs, powers, turns}

pub up_zero : (x n : ℕ) → up x n 0 ≡ 0
unfolding up
up_zero x zero = refl
up_zero x (suc n) = ap (λ (z : ℕ). z ⊗ x) (up_zero x n) ∙ ⊗-zero-l x

pub up_⊕ : (x n a b : ℕ) → up x n (a ⊕ b) ≡ up x n a ⊕ up x n b
unfolding up
up_⊕ x zero a b = refl
up_⊕ x (suc n) a b = ap (λ (z : ℕ). z ⊗ x) (up_⊕ x n a b) ∙ ⊗-dist-r (up x n a) (up x n b) x

pub up_⊗ : (x n c w : ℕ) → up x n (c ⊗ w) ≡ c ⊗ up x n w
unfolding up
up_⊗ x zero c w = refl
up_⊗ x (suc n) c w = ap (λ (z : ℕ). z ⊗ x) (up_⊗ x n c w) ∙ ⊗-assoc c (up x n w) x

pub up_⊗_r : (x n c w : ℕ) → up x n (w ⊗ c) ≡ up x n w ⊗ c
up_⊗_r x n c w = ap (up x n) (⊗-comm w c) ∙ up_⊗ x n c w ∙ ⊗-comm c (up x n w)

pub up_suc : (x n w : ℕ) → up x (suc n) w ≡ up x n (w ⊗ x)
unfolding up
up_suc x n w = sym (up_⊗_r x n x w)

pub up_add : (x m n w : ℕ) → up x (m + n) w ≡ up x m (up x n w)
unfolding up
up_add x zero n w = let e : zero + n ≡ n = omega arith in ap (λ (k : ℕ). up x k w) e
up_add x (suc m) n w = let e : suc m + n ≡ suc (m + n) = omega arith in ap (λ (k : ℕ). up x k w) e ∙ ap (λ (z : ℕ). z ⊗ x) (up_add x m n w)

pub up_lt : (x n w : ℕ) → w < 256 → up x n w < 256
unfolding up
up_lt x zero w h = h
up_lt x (suc n) w h = ⊗-lt (up x n w) x

pub pow_lt : (n : ℕ) → pow n < 256
pow_lt n = up_lt 2 n 1 (omega arith)

-- a byte times a power of 2
pub up_two : (n w : ℕ) → w < 256 → w ⊗ pow n ≡ up 2 n w
up_two n w h = sym (up_⊗ 2 n w 1) ∙ ap (up 2 n) (⊗-one w h)

pub pow_add : (m n : ℕ) → pow m ⊗ pow n ≡ pow (m + n)
pow_add m n = up_two n (pow m) (pow_lt m) ∙ sym (up_add 2 n m 1) ∙ (let e : n + m ≡ m + n = omega arith in ap pow e)

pub up_pow : (j m w : ℕ) → w < 256 → up (pow j) m w ≡ up 2 (j * m) w
unfolding up
up_pow j zero w h = sym (ap (λ (k : ℕ). up 2 k w) (mul-zero j))
up_pow j (suc m) w h =
    up_two j (up (pow j) m w) (up_lt (pow j) m w h)
    ∙ ap (up 2 j) (up_pow j m w h)
    ∙ sym (up_add 2 j (j * m) w)
    ∙ ap (λ (k : ℕ). up 2 k w) (let e : j + j * m ≡ j * m + j = omega arith in e ∙ sym (mul-suc j m))

-- the m-th power of the j-th power is the j-th power of the m-th
pub up_swap : (j m w : ℕ) → w < 256 → up (pow j) m w ≡ up (pow m) j w
up_swap j m w h = up_pow j m w h ∙ ap (λ (k : ℕ). up 2 k w) (mul_comm j m) ∙ sym (up_pow m j w h)

-- ---- the tables
all_powers : T (below 509 (λ i. eqb (get_or powers (suc i) 0) (get_or powers i 0 ⊗ 2)))
unfolding powers turns ◌⊗◌ bits times2
all_powers = tt

pub power_is : (i : ℕ) → i < 510 → element_of i ≡ pow i
unfolding up powers turns
power_is zero h = refl
power_is (suc i) h =
    eqb→eq _ _ (at_below 509 (λ i. eqb (get_or powers (suc i) 0) (get_or powers i 0 ⊗ 2)) all_powers i (omega arith)) ∙ ap (λ (z : ℕ). z ⊗ 2) (power_is i (omega arith))

all_zeros : T (below 511 (λ i. eqb (element_of (510 + i)) 0))
unfolding powers turns
all_zeros = tt

zero_behind : (m : ℕ) → 510 ≤ m → m ≤ 1020 → element_of m ≡ 0
zero_behind m h k =
    let e : m ≡ 510 + (m - 510) = omega arith in
    ap element_of e ∙ eqb→eq _ _ (at_below 511 (λ i. eqb (element_of (510 + i)) 0) all_zeros (m - 510) (omega arith))

all_logs : T (below 256 (λ a. eqb (element_of (get_or logs a 0)) a))
unfolding powers turns logs
all_logs = tt

pub element_log : (a : ℕ) → a < 256 → element_of (get_or logs a 0) ≡ a
element_log a h = eqb→eq _ _ (at_below 256 (λ a. eqb (element_of (get_or logs a 0)) a) all_logs a h)

all_small : T (below 256 (λ a. ltb (get_or logs a 0) 255 || (eqb a 0 && eqb (get_or logs a 0) 510)))
unfolding logs
all_small = tt

all_back : T (below 255 (λ i. eqb (get_or logs (get_or powers i 0) 0) i))
unfolding powers turns logs
all_back = tt

-- the logarithm of an element is below 255, or 510 for 0
by_log : {P : Type 0} (a : ℕ) → a < 256 → (get_or logs a 0 < 255 → P) → (a ≡ 0 → get_or logs a 0 ≡ 510 → P) → P
by_log {P} a h f g = go (ltb (get_or logs a 0) 255) refl (at_below 256 (λ a. ltb (get_or logs a 0) 255 || (eqb a 0 && eqb (get_or logs a 0) 510)) all_small a h)
  where
    go : (b : Bool) → ltb (get_or logs a 0) 255 ≡ b → T (b || (eqb a 0 && eqb (get_or logs a 0) 510)) → P
    go true e t = f (ltb-true (get_or logs a 0) 255 e)
    go false e t = g (eqb→eq a 0 (and_left (eqb a 0) (eqb (get_or logs a 0) 510) t)) (eqb→eq (get_or logs a 0) 510 (and_right (eqb a 0) (eqb (get_or logs a 0) 510) t))

pub log_lt : (a : ℕ) → a < 256 → (a ≡ 0 → ⊥) → get_or logs a 0 < 255
log_lt a h n = by_log a h (λ l. l) (λ z _. absurd (n z))

pub log_is : (a : ℕ) → a < 256 → is_log (get_or logs a 0) ≡ true
log_is a h = by_log a h (λ l. ap (λ (b : Bool). b || eqb (get_or logs a 0) 510) (lt-ltb (get_or logs a 0) 255 l)) (λ _ e. or_right (ltb (get_or logs a 0) 255) (eqb (get_or logs a 0) 510) (eq-eqb (get_or logs a 0) 510 e))

pub log_most : (m : ℕ) → is_log m ≡ true → m ≤ 510
log_most m e = by_or (ltb m 255) (eqb m 510) e (λ l. omega (arith, ltb-true m 255 l)) (λ q. omega (arith, eqb-true m 510 q))

pub pow_log : (a : ℕ) → a < 256 → (a ≡ 0 → ⊥) → pow (get_or logs a 0) ≡ a
pow_log a h n = sym (power_is (get_or logs a 0) (omega (arith, log_lt a h n))) ∙ element_log a h

pub log_pow : (i : ℕ) → i < 255 → get_or logs (pow i) 0 ≡ i
log_pow i h = ap (λ (a : ℕ). get_or logs a 0) (sym (power_is i (omega arith))) ∙ eqb→eq _ _ (at_below 255 (λ i. eqb (get_or logs (get_or powers i 0) 0) i) all_back i h)

pub pow_one_one : (i j : ℕ) → i < 255 → j < 255 → pow i ≡ pow j → i ≡ j
pow_one_one i j hi hj e = sym (log_pow i hi) ∙ ap (λ (a : ℕ). get_or logs a 0) e ∙ log_pow j hj

pub pow_around : pow 255 ≡ 1
unfolding powers turns
pow_around = sym (power_is 255 (omega arith))

-- ---- inverses
pub ⊗-inv : (a : ℕ) → a < 256 → (a ≡ 0 → ⊥) → a ⊗ inv a ≡ 1
unfolding inv
⊗-inv a h n =
    let l : ℕ = get_or logs a 0 in
    ap (λ (z : ℕ). z ⊗ pow (255 - l)) (sym (pow_log a h n)) ∙ pow_add l (255 - l)
    ∙ (let e : l + (255 - l) ≡ 255 = omega (arith, log_lt a h n) in ap pow e) ∙ pow_around

pub ⊗-nothing : (a b : ℕ) → a < 256 → b < 256 → (a ≡ 0 → ⊥) → a ⊗ b ≡ 0 → b ≡ 0
⊗-nothing a b ha hb n e =
    sym (⊗-one-l b hb) ∙ ap (λ (z : ℕ). z ⊗ b) (sym (⊗-inv a ha n) ∙ ⊗-comm a (inv a)) ∙ ⊗-assoc (inv a) a b
    ∙ ap (λ (z : ℕ). inv a ⊗ z) e ∙ ⊗-zero-r (inv a)

pub up_nothing : (x n w : ℕ) → x < 256 → w < 256 → (x ≡ 0 → ⊥) → up x n w ≡ 0 → w ≡ 0
unfolding up
up_nothing x zero w hx hw n e = e
up_nothing x (suc k) w hx hw n e = up_nothing x k w hx hw n (⊗-nothing x (up x k w) hx (up_lt x k w hw) n (⊗-comm x (up x k w) ∙ e))

pub pow_pos : (n : ℕ) → pow n ≡ 0 → ⊥
pow_pos n e = let z : ◌≡◌ {A = ℕ} 1 0 = up_nothing 2 n 1 (omega arith) (omega arith) (λ h. omega arith) e in omega arith

-- the product by the tables: of two powers by adding; of 0 and anything behind the powers
pub table_product : (m b : ℕ) → is_log m ≡ true → b < 256 → element_of (m + get_or logs b 0) ≡ element_of m ⊗ b
table_product m b e h = by_or (ltb m 255) (eqb m 510) e (λ l. by_log b h (λ k. both (ltb-true m 255 l) k) (λ z q. right (ltb-true m 255 l) z q)) (λ q. left (eqb-true m 510 q))
  where
    both : m < 255 → get_or logs b 0 < 255 → element_of (m + get_or logs b 0) ≡ element_of m ⊗ b
    both l k =
        power_is (m + get_or logs b 0) (omega arith) ∙ sym (pow_add m (get_or logs b 0))
        ∙ ap₂ ◌⊗◌ (sym (power_is m (omega arith))) (sym (power_is (get_or logs b 0) (omega arith)) ∙ element_log b h)

    right : m < 255 → b ≡ 0 → get_or logs b 0 ≡ 510 → element_of (m + get_or logs b 0) ≡ element_of m ⊗ b
    right l z q = zero_behind (m + get_or logs b 0) (omega arith) (omega arith) ∙ sym (ap (λ (y : ℕ). element_of m ⊗ y) z ∙ ⊗-zero-r (element_of m))

    left : m ≡ 510 → element_of (m + get_or logs b 0) ≡ element_of m ⊗ b
    left q =
        zero_behind (m + get_or logs b 0) (omega arith) (omega (arith, log_most (get_or logs b 0) (log_is b h)))
        ∙ sym (ap (λ (y : ℕ). y ⊗ b) (zero_behind m (omega arith) (omega arith)) ∙ ⊗-zero-l b)
