-- The choice of a capacity: the first in the rising list that will do, either with the fewest codewords in front of a pad or
-- filled, is chosen if it is permitted; and if none is chosen, no permitted capacity will do.
-- Assumes nothing.
use Prim.Native.Nat.{ℕ, ◌≤◌, ◌<◌}
use mathlib.Core.Bool.{Bool, true, false}
use mathlib.Core.List.{List, [], ◌∷◌}
use mathlib.Core.Logic.{◌⊎◌, inl, inr}
use mathlib.Core.Path.{◌≡◌, refl, subst}
use native.Mathlib.Omega.{arith}
use lib.Dec.{ltb}
use borrow.Author.Tests.{ltb-true, ltb-false, leb-true, leb-false}
use Rattle.refusal.specs.Pick.{pick}
use Rattle.codeword.specs.Sizes.{capacities}
use Rattle.refusal.specs.Among.{among}
use Rattle.refusal.proofs.Among.{nowhere, first as at_first, further, first_or_further}
use Rattle.optimum.specs.Cost.{asc, cost}
use Rattle.optimum.specs.Write.{odd, fits, fewest, Choice, at, nothing, choose}

-- a capacity that will do
abbrev pub Feasible : List ℕ → ℕ → Type 0
Feasible t c = (fewest t < c) ⊎ (cost false t asc (odd c) ≤ c)

-- how it will do: n codewords in front of a pad, or as many as it holds
abbrev pub Kind : (t : List ℕ) (c n : ℕ) (padded : Bool) → Type 0
Kind t c n true = (n ≡ fewest t) × (fewest t < c)
Kind t c n false = (n ≡ c) × (c ≤ fewest t) × (cost false t asc (odd c) ≤ c)

-- each is below the next
abbrev Next : ℕ → List ℕ → Type 0
Next c [] = Unit {0}
Next c (d ∷ l) = (c < d) × Next d l

abbrev Rising : List ℕ → Type 0
Rising [] = Unit {0}
Rising (c ∷ l) = Next c l

rest_rising : (c : ℕ) (l : List ℕ) → Next c l → Rising l
rest_rising c [] h = tt
rest_rising c (d ∷ l) h = h.1

above : (c : ℕ) (l : List ℕ) → Next c l → (d : ℕ) → among d l ≡ true → c < d
above c [] h d e = absurd (nowhere d e)
above c (x ∷ l) h d e = first_or_further d x l e (λ q. omega (arith, q, h.0)) (λ q. omega (arith, h.0, above x l h.1 d q))

least : (c : ℕ) (l : List ℕ) → Next c l → (d : ℕ) → among d (c ∷ l) ≡ true → c ≤ d
least c l h d e = first_or_further d c l e (λ q. omega (arith, q)) (λ q. omega (arith, above c l h d q))

-- what is chosen from a list
pub record Chosen (l : List ℕ) (max : ℕ) (t : List ℕ) (c n : ℕ) (b : Bool) : Type 0 where
  pub listed : among c l ≡ true
  pub low : c ≤ max
  pub first : (d : ℕ) → among d l ≡ true → Feasible t d → c ≤ d
  pub kind : Kind t c n b

abbrev pub Found : List ℕ → ℕ → List ℕ → Choice → Type 0
Found l max t (at c n b) = Chosen l max t c n b
Found l max t nothing = (d : ℕ) → among d l ≡ true → d ≤ max → Feasible t d → ⊥

-- the first of the list will not do
later :
    (c : ℕ) (l : List ℕ) (max : ℕ) (t : List ℕ) (x : Choice) → (Feasible t c → ⊥) → Found l max t x → Found (c ∷ l) max t x
later c l max t (at d n b) h F =
    record {
      listed = further d c l F.listed;
      low = F.low;
      first = λ e i f. first_or_further e c l i (λ q. absurd (h (subst (Feasible t) q f))) (λ q. F.first e q f);
      kind = F.kind;
    }
later c l max t nothing h F = λ d i g f. first_or_further d c l i (λ q. h (subst (Feasible t) q f)) (λ q. F d q g f)

found : (l : List ℕ) (max : ℕ) (t : List ℕ) → Rising l → Found l max t (choose l max t)
unfolding choose
found [] max t r = λ d i g f. nowhere d i
found (c ∷ l) max t r = go (ltb max c) refl (found l max t (rest_rising c l r))
  where
    take_it : (n : ℕ) (b : Bool) → c ≤ max → Kind t c n b → Chosen (c ∷ l) max t c n b
    take_it n b g k = record { listed = at_first c l; low = g; first = λ d i f. least c l r d i; kind = k }

    neither : c ≤ fewest t → c < cost false t asc (odd c) → Feasible t c → ⊥
    neither h g (inl f) = omega arith
    neither h g (inr f) = omega arith

    go₃ :
        (x : Bool) → fits false t asc c ≡ x → c ≤ max → c ≤ fewest t → Found l max t (choose l max t) →
        Found (c ∷ l) max t (pick x (at c c false) (choose l max t))
    go₃ true e g h F = take_it c false g (refl, h, leb-true _ _ e)
    go₃ false e g h F = later c l max t (choose l max t) (neither h (leb-false _ _ e)) F

    go₂ :
        (x : Bool) → ltb (fewest t) c ≡ x → c ≤ max → Found l max t (choose l max t) →
        Found (c ∷ l) max t (pick x (at c (fewest t) true) (pick (fits false t asc c) (at c c false) (choose l max t)))
    go₂ true e g F = take_it (fewest t) true g (refl, ltb-true _ _ e)
    go₂ false e g F = go₃ (fits false t asc c) refl g (ltb-false _ _ e) F

    go :
        (x : Bool) → ltb max c ≡ x → Found l max t (choose l max t) →
        Found (c ∷ l) max t
        (pick x nothing (pick (ltb (fewest t) c) (at c (fewest t) true) (pick (fits false t asc c) (at c c false) (choose l max t))))
    go true e F = λ d i g f. omega (arith, least c l r d i, ltb-true max c e)
    go false e F = go₂ (ltb (fewest t) c) refl (ltb-false _ _ e) F

rising : Rising capacities
unfolding capacities
rising = omega arith

pub chosen : (max : ℕ) (t : List ℕ) → Found capacities max t (choose capacities max t)
chosen max t = found capacities max t rising
