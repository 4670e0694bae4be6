-- A cost below `inf` has the parity that it is asked for: the ends have it, and each step of the recurrence keeps it.
-- Assumes nothing.
use Prim.Native.Nat.{ℕ, suc, ◌+◌, min, ◌≤◌}
use mathlib.Core.Bool.{Bool, true, false, not, not-not}
use mathlib.Core.List.{List, [], ◌∷◌}
use mathlib.Core.Logic.{◌⊎◌, inl, inr}
use mathlib.Core.Path.{◌≡◌, refl, ap, ◌∙◌}
use native.Mathlib.Omega.{arith}
use lib.Dec.{leb}
use borrow.Author.Tests.{leb-true, leb-false}
use Rattle.refusal.specs.Pick.{pick}
use Rattle.codeword.specs.declared.Set.{Set}
use Rattle.codeword.specs.declared.Set.TheVariants.{Basic, Set1, Set2, Set3}
use Rattle.codeword.specs.Characters.{set_of}
use Rattle.optimum.specs.Cost.{State, asc, dig, d0, d1, d2, fil, fin, inf, digit, forms, base, chars, pairs, asc_b, fil_b, before, cost}
use Rattle.optimum.specs.Write.{odd}

abbrev pub Par : ℕ → Bool → Type 0
Par x p = (odd x ≡ p) ⊎ (inf ≤ x)

par_min : {x y : ℕ} {p : Bool} → Par x p → Par y p → Par (min x y) p
par_min {x} {y} {p} h g = go (leb x y) refl
  where
    go : (b : Bool) → leb x y ≡ b → Par (min x y) p
    go true e = let q : min x y ≡ x = omega (arith, leb-true x y e) in rw q h
    go false e = let q : min x y ≡ y = omega (arith, leb-false x y e) in rw q g

par_suc : {x : ℕ} (p : Bool) → Par x (not p) → Par (suc x) p
unfolding odd
par_suc p (inl e) = inl (ap not e ∙ not-not p)
par_suc p (inr l) = inr (omega arith)

par_two : {x : ℕ} {p : Bool} → Par x p → Par (2 + x) p
unfolding odd
par_two {x} (inl e) = let q : 2 + x ≡ suc (suc x) = omega arith in inl (rw q (not-not (odd x) ∙ e))
par_two (inr l) = inr (omega arith)

par_inf : (p : Bool) → Par inf p
par_inf p = inr (omega arith)

par_pick : (b : Bool) {x y : ℕ} {p : Bool} → Par x p → Par y p → Par (pick b x y) p
par_pick true h g = h
par_pick false h g = g

par_forms : (s : Set) {x y : ℕ} {p : Bool} → Par x p → Par y p → Par (forms s x y) p
par_forms Basic h g = h
par_forms Set1 h g = g
par_forms Set2 h g = g
par_forms Set3 h g = g

at_end : (b : Bool) (st : State) (p : Bool) → Par (base b st p) p
unfolding base odd
at_end b asc false = inl refl
at_end true asc true = inr (omega arith)
at_end false asc true = inl refl
at_end b dig p = par_inf p
at_end true d0 false = inr (omega arith)
at_end false d0 false = inl refl
at_end b d0 true = inl refl
at_end b d1 p = par_inf p
at_end true d2 false = inr (omega arith)
at_end false d2 false = inl refl
at_end b d2 true = inl refl
at_end true fil false = inr (omega arith)
at_end false fil false = inl refl
at_end b fil true = inl refl
at_end true fin false = inr (omega arith)
at_end false fin false = inl refl
at_end b fin true = par_inf true

module _ (c : ℕ) (k : State → Bool → ℕ) (h : (st : State) (p : Bool) → Par (k st p) p) where
  par_chars : (p : Bool) → Par (chars c k p) p
  unfolding chars
  par_chars p = par_min (par_suc p (h asc (not p))) (par_pick (digit c) (par_suc p (h dig (not p))) (par_inf p))

  par_pairs : (p : Bool) → Par (pairs c k p) p
  unfolding pairs
  par_pairs p = par_min (par_suc p (h fin (not p))) (par_forms (set_of c) (h d1 p) (h d2 p))

  par_asc : (p : Bool) → Par (asc_b c k p) p
  par_asc p = par_min (par_chars p) (par_suc p (par_pairs (not p)))

  par_fil : (p : Bool) → Par (fil_b c k p) p
  par_fil p = par_min (par_suc p (par_asc (not p))) (par_suc p (h fin (not p)))

  in_front : (st : State) (p : Bool) → Par (before c k st p) p
  unfolding before
  in_front asc p = par_asc p
  in_front dig p = par_pick (digit c) (h asc p) (par_inf p)
  in_front d0 p = par_min (par_suc p (par_chars (not p))) (par_pairs p)
  in_front d1 p = par_forms (set_of c) (h d2 p) (par_two (h d0 p))
  in_front d2 p = par_two (par_min (par_fil p) (par_forms (set_of c) (h d0 p) (h d1 p)))
  in_front fil p = par_fil p
  in_front fin p = par_inf p

pub parity : (b : Bool) (t : List ℕ) (st : State) (p : Bool) → Par (cost b t st p) p
unfolding cost
parity b [] st p = at_end b st p
parity b (c ∷ t) st p = in_front c (cost b t) (λ st p. parity b t st p) st p
