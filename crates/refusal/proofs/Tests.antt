-- Laws of tests: a `pick` whose answer is known was decided by its test; a test that holds for every number below n, computed
-- once, holds for each of them; and from two different constructors that would be equal follows anything.
-- Assumes nothing.
use Prim.Native.Nat.{ℕ, zero, suc, ◌<◌}
use mathlib.Core.Bool.{Bool, true, false, ◌&&◌}
use mathlib.Core.Path.{◌≡◌, refl}
use native.Mathlib.Omega.{arith}
use native.Mathlib.Nat.{not-suc-le-zero}
use lib.Dec.{T, eqb}
use borrow.Author.Tests.{eqb-true, eqb-false}
use Rattle.refusal.specs.Pick.{pick}

pub clash : {A : Type 0} → ◌≡◌ {A = ℕ} 0 1 → A
clash e = absurd (omega arith)

pub by_test : {A P : Type 0} (b : Bool) (x y z : A) → pick b x y ≡ z → (b ≡ true → x ≡ z → P) → (b ≡ false → y ≡ z → P) → P
by_test true x y z e f g = f refl e
by_test false x y z e f g = g refl e

abbrev pub below : ℕ → (ℕ → Bool) → Bool
below zero f = true
below (suc n) f = f n && below n f

pub and_left : (a b : Bool) → T (a && b) → T a
and_left true b t = tt
and_left false b t = t

pub and_right : (a b : Bool) → T (a && b) → T b
and_right true b t = t
and_right false b t = absurd t

pub at_below : (n : ℕ) (f : ℕ → Bool) → T (below n f) → (i : ℕ) → i < n → T (f i)
at_below zero f t i h = absurd (not-suc-le-zero h)
at_below (suc n) f t i h = go (eqb i n) refl (λ l. at_below n f (and_right (f n) (below n f) t) i l)
  where
    go : (b : Bool) → eqb i n ≡ b → (i < n → T (f i)) → T (f i)
    go true e k = rw (eqb-true i n e) (and_left (f n) (below n f) t)
    go false e k = let ne : i ≡ n → ⊥ = eqb-false i n e in k (omega arith)
