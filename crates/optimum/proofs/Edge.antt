-- The edges of the cost: from each state, every move of the reader costs at most its codewords and the cost behind it. One law
-- for each move; each is the recurrence itself, read as an inequality.
-- Assumes nothing.
use Prim.Native.Nat.{ℕ, suc, ◌+◌, ◌≤◌}
use mathlib.Core.Bool.{Bool, true, false, not}
use mathlib.Core.List.{List, [], ◌∷◌}
use mathlib.Core.Path.{◌≡◌, refl}
use native.Mathlib.Omega.{arith}
use Rattle.codeword.specs.declared.Set.{Set}
use Rattle.codeword.specs.declared.Set.TheVariants.{Basic, Set1, Set2, Set3}
use Rattle.codeword.specs.Characters.{set_of}
use Rattle.optimum.specs.Cost.{State, asc, dig, d0, d1, d2, fil, digit, forms, base, chars, pairs, before, cost}

-- a set that takes two values
abbrev pub Shifted : Set → Type 0
Shifted Basic = ⊥
Shifted Set1 = Unit {0}
Shifted Set2 = Unit {0}
Shifted Set3 = Unit {0}

pub shifted_forms : (s : Set) (x y : ℕ) → Shifted s → forms s x y ≡ y
shifted_forms Basic x y h = absurd h
shifted_forms Set1 x y h = refl
shifted_forms Set2 x y h = refl
shifted_forms Set3 x y h = refl

module _ (c : ℕ) (k : State → Bool → ℕ) where
  pub char_edge : (q : Bool) → before c k asc (not q) ≤ suc (k asc q)
  unfolding before chars
  char_edge true = omega arith
  char_edge false = omega arith

  pub digit_edge : (q : Bool) → digit c ≡ true → before c k asc (not q) ≤ suc (k dig q)
  unfolding before chars
  digit_edge true e = rw e (omega arith)
  digit_edge false e = rw e (omega arith)

  pub digit2_edge : (q : Bool) → digit c ≡ true → before c k dig q ≤ k asc q
  unfolding before
  digit2_edge q e = rw e (omega arith)

  pub basic0 : (q : Bool) → set_of c ≡ Basic → before c k d0 q ≤ k d1 q
  unfolding before pairs
  basic0 q e = rw e (omega arith)

  pub basic1 : (q : Bool) → set_of c ≡ Basic → before c k d1 q ≤ k d2 q
  unfolding before
  basic1 q e = rw e (omega arith)

  pub basic2 : (q : Bool) → set_of c ≡ Basic → before c k d2 q ≤ 2 + k d0 q
  unfolding before
  basic2 q e = rw e (omega arith)

  pub shifted0 : (q : Bool) (s : Set) → Shifted s → set_of c ≡ s → before c k d0 q ≤ k d2 q
  unfolding before pairs
  shifted0 q s h e = rw (e, shifted_forms s (k d1 q) (k d2 q) h) (omega arith)

  pub shifted1 : (q : Bool) (s : Set) → Shifted s → set_of c ≡ s → before c k d1 q ≤ 2 + k d0 q
  unfolding before
  shifted1 q s h e = rw (e, shifted_forms s (k d2 q) (2 + k d0 q) h) (omega arith)

  pub shifted2 : (q : Bool) (s : Set) → Shifted s → set_of c ≡ s → before c k d2 q ≤ 2 + k d1 q
  unfolding before
  shifted2 q s h e = rw (e, shifted_forms s (k d0 q) (k d1 q) h) (omega arith)

-- the moves that read no character
module _ (b : Bool) where
  pub latch_edge : (t : List ℕ) (q : Bool) → cost b t asc (not q) ≤ suc (cost b t d0 q)
  unfolding cost before base
  latch_edge [] true = omega arith
  latch_edge [] false = elim b as (λ k. cost k [] asc true ≤ suc (cost k [] d0 false)) [ true ↦ omega arith | false ↦ omega arith ]
  latch_edge (c ∷ t) true = omega arith
  latch_edge (c ∷ t) false = omega arith

  pub unlatch_edge : (t : List ℕ) (q : Bool) → cost b t d0 (not q) ≤ suc (cost b t asc q)
  unfolding cost before base
  unlatch_edge [] true = elim b as (λ k. cost k [] d0 false ≤ suc (cost k [] asc true)) [ true ↦ omega arith | false ↦ omega arith ]
  unlatch_edge [] false = omega arith
  unlatch_edge (c ∷ t) true = omega arith
  unlatch_edge (c ∷ t) false = omega arith

  pub filler_edge : (t : List ℕ) (q : Bool) → cost b t fil (not q) ≤ suc (cost b t asc q)
  unfolding cost before base
  filler_edge [] true = elim b as (λ k. cost k [] fil false ≤ suc (cost k [] asc true)) [ true ↦ omega arith | false ↦ omega arith ]
  filler_edge [] false = omega arith
  filler_edge (c ∷ t) true = omega arith
  filler_edge (c ∷ t) false = omega arith

  pub third_edge : (t : List ℕ) (q : Bool) → cost b t d2 q ≤ 2 + cost b t fil q
  unfolding cost before base
  third_edge [] true = omega arith
  third_edge [] false = elim b as (λ k. cost k [] d2 false ≤ 2 + cost k [] fil false) [ true ↦ omega arith | false ↦ omega arith ]
  third_edge (c ∷ t) q = omega arith
