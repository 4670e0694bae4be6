-- What is among the numbers of a list is the first of them or among the others, and the library's search finds it. By cases on the test.
-- Assumes nothing.
use Prim.Native.Nat.{ℕ}
use mathlib.Core.Bool.{Bool, true, false, ◌||◌}
use mathlib.Core.List.{List, [], ◌∷◌}
use mathlib.Core.Path.{◌≡◌, refl, sym}
use lib.Dec.{eqb}
use borrow.Author.Tests.{eq-eqb, ne_eqb, eqb-true, eqb-false}
use Rattle.std.specs.Prelude.{◌==◌}
use Rattle.std.specs.List.{list_any}
use Rattle.refusal.specs.Among.{among}
use Rattle.refusal.proofs.Binds.{clash}

pub nowhere : (n : ℕ) → among n [] ≡ true → ⊥
unfolding among
nowhere n e = clash e

pub first : (n : ℕ) (l : List ℕ) → among n (n ∷ l) ≡ true
unfolding among
first n l = rw (eq-eqb n n refl)

module _ (n m : ℕ) (l : List ℕ) where
  pub further : among n l ≡ true → among n (m ∷ l) ≡ true
  unfolding among
  further e = go (eqb n m)
    where
      go : (x : Bool) → (x || among n l) ≡ true
      go true = refl
      go false = e

  pub first_or_further : {P : Type 0} → among n (m ∷ l) ≡ true → (n ≡ m → P) → (among n l ≡ true → P) → P
  unfolding among
  first_or_further {P} e f g = go (eqb n m) refl e
    where
      go : (x : Bool) → eqb n m ≡ x → (x || among n l) ≡ true → P
      go true q _ = f (eqb-true n m q)
      go false _ r = g r

turned_round : (m n : ℕ) → eqb m n ≡ eqb n m
turned_round m n = go (eqb m n) refl
  where
    go : (b : Bool) → eqb m n ≡ b → b ≡ eqb n m
    go true e = sym (eq-eqb n m (sym (eqb-true m n e)))
    go false e = sym (ne_eqb n m (λ q. eqb-false m n e (sym q)))

-- the library's search, whose test has its sides the other way round
pub any_among : (n : ℕ) (l : List ℕ) → list_any (λ y. y == n) l ≡ among n l
unfolding among
any_among n [] = refl
any_among n (m ∷ l) = rw (turned_round m n, any_among n l)
