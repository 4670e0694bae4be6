-- The largest size: what is among numbers that are at most m is at most m.
-- Assumes nothing.
use mathlib.Core.Path.{◌≡◌, sym, subst}
use mathlib.Core.Bool.{true}
use mathlib.Core.List.{List, [], ◌∷◌}
use Prim.Native.Nat.{ℕ, ◌≤◌}
use native.Mathlib.Omega.{arith}
use Rattle.refusal.specs.Among.{among}
use Rattle.refusal.proofs.Among.{nowhere, first_or_further}
use Rattle.codeword.specs.Sizes.{capacities, most_codewords, is_capacity}

abbrev NoneAbove : ℕ → List ℕ → Type 0
NoneAbove m [] = Unit {0}
NoneAbove m (x ∷ xs) = (x ≤ m) × NoneAbove m xs

at_most : (m n : ℕ) (xs : List ℕ) → NoneAbove m xs → among n xs ≡ true → n ≤ m
at_most m n [] h e = absurd (nowhere n e)
at_most m n (x ∷ xs) h e = first_or_further n x xs e (λ q. subst (λ (k : ℕ). k ≤ m) (sym q) h.0) (λ q. at_most m n xs h.1 q)

pub capacity_most : (n : ℕ) → is_capacity n ≡ true → n ≤ most_codewords
unfolding capacities
capacity_most n e = at_most most_codewords n capacities (omega arith) e
