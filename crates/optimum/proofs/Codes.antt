-- Codewords and what they mean, both ways: which codewords write a character, two digits or three values, and what a codeword
-- with such a meaning must be. Each goes down the tests of the meaning in their order.
-- Assumes nothing.
use Prim.Native.Nat.{ℕ, suc, ◌+◌, ◌-◌, ◌*◌, ◌/◌, ◌%◌, ◌≤◌, ◌<◌}
use mathlib.Core.Bool.{true, false}
use mathlib.Core.List.{[], ◌∷◌}
use mathlib.Core.Path.{◌≡◌, ap, ◌∙◌}
use native.Mathlib.Omega.{arith}
use native.Mathlib.Nat.{div-div-eq-div-mul}
use lib.Dec.{ltb, leb, eqb}
use borrow.Author.Tests.{ltb-true, ltb-false, leb-true, leb-false, eqb-true, eqb-false, lt-ltb, le-ltb, le-leb, lt-leb, ne_eqb}
use Rattle.std.specs.Prelude.{Option, Some}
use Rattle.refusal.proofs.Tests.{clash, by_test}
use Rattle.codeword.specs.declared.Ascii.TheVariants.{One, Two, Latch}
use Rattle.codeword.specs.declared.Lone.TheVariants.{Ends, Last}
use Rattle.codeword.specs.Meanings.{ascii, lone, pair}
use Rattle.optimum.specs.Cost.{digit}
use Rattle.optimum.specs.Write.{pack}
use Rattle.optimum.proofs.Values.{Bytes}

-- FROM A MEANING TO THE CODEWORD

pub ascii_one : (c : ℕ) → c < 128 → ascii (suc c) ≡ One c
unfolding ascii
ascii_one c h =
    let n : suc c ≡ 0 → ⊥ = omega arith in
    let e : suc c - 1 ≡ c = omega arith in
    simp (ne_eqb (suc c) 0 n, le-leb (suc c) 128 (omega arith), e)

digit_range : (c : ℕ) → digit c ≡ true → (48 ≤ c) × (c < 58)
unfolding digit
digit_range c e = by_test (ltb c 48) _ _ _ e (λ t q. clash cc) (λ f q. (ltb-false c 48 f, ltb-true c 58 q))

pub ascii_two : (c d : ℕ) → digit c ≡ true → digit d ≡ true → ascii (130 + (10 * (c - 48) + (d - 48))) ≡ Two c d
unfolding ascii
ascii_two c d hc hd = go (digit_range c hc) (digit_range d hd)
  where
    go : (48 ≤ c) × (c < 58) → (48 ≤ d) × (d < 58) → ascii (130 + (10 * (c - 48) + (d - 48))) ≡ Two c d
    go hc hd =
        let w : ℕ = 130 + (10 * (c - 48) + (d - 48)) in
        let n : w ≡ 0 → ⊥ = omega arith in
        let n' : w ≡ 129 → ⊥ = omega arith in
        let p : 48 + (w - 130) / 10 ≡ c = omega arith in
        let q : 48 + (w - 130) % 10 ≡ d = omega arith in
        simp (ne_eqb w 0 n, lt-leb w 128 (omega arith), ne_eqb w 129 n', le-leb w 229 (omega arith), p, q)

pub two_byte : (c d : ℕ) → digit c ≡ true → digit d ≡ true → 130 + (10 * (c - 48) + (d - 48)) < 256
two_byte c d hc hd = omega (arith, (digit_range c hc).1, (digit_range d hd).1)

pub lone_last : (c : ℕ) → c < 128 → lone (suc c) ≡ Last c
unfolding lone
lone_last c h =
    let n : suc c ≡ 254 → ⊥ = omega arith in
    let n' : suc c ≡ 0 → ⊥ = omega arith in
    let e : suc c - 1 ≡ c = omega arith in
    simp (ne_eqb (suc c) 254 n, ne_eqb (suc c) 0 n', le-leb (suc c) 128 (omega arith), e)

-- three values make a pair, whose first codeword is not 254
module _ (x y z : ℕ) (hx : x < 40) (hy : y < 40) (hz : z < 40) where
  pub pair_of : pair (pack x y z / 256) (pack x y z % 256) ≡ Some (x, y, z)
  unfolding pair
  pair_of =
      let v : ℕ = pack x y z in
      let e : 256 * (v / 256) + v % 256 ≡ v = omega arith in
      let p : (v - 1) / 1600 ≡ x = omega arith in
      let h : (v - 1) / 40 ≡ 40 * x + y = omega arith in
      let g : (40 * x + y) % 40 ≡ y = omega arith in
      let q : (v - 1) / 40 % 40 ≡ y = rw h g in
      let r : (v - 1) % 40 ≡ z = omega arith in
      let n : v ≡ 0 → ⊥ = omega arith in
      simp (e, ne_eqb v 0 n, le-leb v 64000 (omega arith), p, q, r)

  pub pair_low : eqb (pack x y z / 256) 254 ≡ false
  pair_low = let n : pack x y z / 256 ≡ 254 → ⊥ = omega arith in ne_eqb (pack x y z / 256) 254 n

  pub pair_bytes : Bytes (pack x y z / 256 ∷ pack x y z % 256 ∷ [])
  pair_bytes = (omega arith, (omega arith, tt))

-- FROM A CODEWORD'S MEANING BACK TO IT

pub is_one : (w c : ℕ) → ascii w ≡ One c → (w ≡ suc c) × (w ≤ 128)
unfolding ascii
is_one w c e =
    by_test (eqb w 0) _ _ _ e (λ t q. clash cc) λ f e.
    by_test (leb w 128) _ _ _ e (λ t q. let p : w - 1 ≡ c = cc in let n = eqb-false w 0 f in omega (arith, leb-true w 128 t)) λ _ e.
    by_test (eqb w 129) _ _ _ e (λ t q. clash cc) λ _ e.
    by_test (leb w 229) _ _ _ e (λ t q. clash cc) λ _ e.
    by_test (eqb w 230) _ _ _ e (λ t q. clash cc) λ _ q. clash cc

digit_of : (n : ℕ) → n < 10 → digit (48 + n) ≡ true
unfolding digit
digit_of n h = rw (le-ltb (48 + n) 48 (omega arith), lt-ltb (48 + n) 58 (omega arith))

-- two digits by one codeword
pub record Digits (w c d : ℕ) : Type 0 where
  pub is : w ≡ 130 + (10 * (c - 48) + (d - 48))
  pub low : w ≤ 229
  pub one : digit c ≡ true
  pub two : digit d ≡ true

pub is_two : (w c d : ℕ) → ascii w ≡ Two c d → Digits w c d
unfolding ascii
is_two w c d e =
    by_test (eqb w 0) _ _ _ e (λ t q. clash cc) λ f e.
    by_test (leb w 128) _ _ _ e (λ t q. clash cc) λ g e.
    by_test (eqb w 129) _ _ _ e (λ t q. clash cc) λ h e.
    by_test (leb w 229) _ _ _ e (λ t q. digits (leb-false w 128 g) (eqb-false w 129 h) (leb-true w 229 t) q) λ _ e.
    by_test (eqb w 230) _ _ _ e (λ t q. clash cc) λ _ q. clash cc
  where
    digits : 128 < w → (w ≡ 129 → ⊥) → w ≤ 229 → Two (48 + (w - 130) / 10) (48 + (w - 130) % 10) ≡ Two c d → Digits w c d
    digits g n h q =
        let p : 48 + (w - 130) / 10 ≡ c = cc in
        let r : 48 + (w - 130) % 10 ≡ d = cc in
        record {
          is = omega arith;
          low = h;
          one = rw (← p) (digit_of ((w - 130) / 10) (omega arith));
          two = rw (← r) (digit_of ((w - 130) % 10) (omega arith));
        }

pub is_latch : (w : ℕ) → ascii w ≡ Latch → w ≡ 230
unfolding ascii
is_latch w e =
    by_test (eqb w 0) _ _ _ e (λ t q. cc) λ _ e.
    by_test (leb w 128) _ _ _ e (λ t q. cc) λ _ e.
    by_test (eqb w 129) _ _ _ e (λ t q. cc) λ _ e.
    by_test (leb w 229) _ _ _ e (λ t q. cc) λ _ e.
    by_test (eqb w 230) _ _ _ e (λ t q. eqb-true w 230 t) λ _ q. cc

pub is_ends : (w : ℕ) → lone w ≡ Ends → w ≡ 254
unfolding lone
is_ends w e =
    by_test (eqb w 254) _ _ _ e (λ t q. eqb-true w 254 t) λ _ e.
    by_test (eqb w 0) _ _ _ e (λ t q. cc) λ _ e.
    by_test (leb w 128) _ _ _ e (λ t q. cc) λ _ q. cc

pub is_last : (w c : ℕ) → lone w ≡ Last c → w ≡ suc c
unfolding lone
is_last w c e =
    by_test (eqb w 254) _ _ _ e (λ t q. cc) λ _ e.
    by_test (eqb w 0) _ _ _ e (λ t q. cc) λ f e.
    by_test (leb w 128) _ _ _ e (λ t q. let p : w - 1 ≡ c = cc in let n = eqb-false w 0 f in omega arith) λ _ q. cc

-- three values by two codewords
pub record Packed (a b x y z : ℕ) : Type 0 where
  pub first : x < 40
  pub second : y < 40
  pub third : z < 40
  pub is : 256 * a + b ≡ pack x y z
  pub low : a ≤ 250

pub is_three : (a b x y z : ℕ) → pair a b ≡ Some (x, y, z) → Packed a b x y z
unfolding pair
is_three a b x y z e =
    by_test (eqb (256 * a + b) 0) _ _ _ e (λ t q. clash cc) λ f e.
    by_test (leb (256 * a + b) 64000) _ _ _ e (λ t q. values (eqb-false _ _ f) (leb-true _ _ t) q) λ _ q. clash cc
  where
    values :
        (256 * a + b ≡ 0 → ⊥) → 256 * a + b ≤ 64000 →
        ◌≡◌ {A = Option (ℕ × ℕ × ℕ)} (Some ((256 * a + b - 1) / 1600, (256 * a + b - 1) / 40 % 40, (256 * a + b - 1) % 40)) (Some (x, y, z)) →
        Packed a b x y z
    values n h q =
        let v : ℕ = 256 * a + b - 1 in
        let same : ◌≡◌ {A = ℕ × ℕ × ℕ} (v / 1600, v / 40 % 40, v % 40) (x, y, z) = cc in
        let p₁ : v / 1600 ≡ x = ap (λ (w : ℕ × ℕ × ℕ). w.0) same in
        let p₂ : v / 40 % 40 ≡ y = ap (λ (w : ℕ × ℕ × ℕ). w.1) same in
        let p₃ : v % 40 ≡ z = ap (λ (w : ℕ × ℕ × ℕ). w.2) same in
        let r : v / 40 / 40 ≡ x = div-div-eq-div-mul v 40 40 ∙ p₁ in
        record { first = omega arith; second = omega arith; third = omega arith; is = omega arith; low = omega arith }
