-- What the tables of sizes hold, by a test that is computed: the capacities up to 174 are the first 14, and a list of one of these sizes
-- has at most 242 words, 1 to 68 of them check words.
-- Assumes nothing.
use Prim.Native.Nat.{◌+◌, ◌<◌, ◌≤◌, ℕ}
use borrow.Author.Tests.{leb-true}
use lib.Dec.{T, leb, leb→le, ltb}
use mathlib.Core.Bool.{Bool, ◌&&◌, true, false}
use mathlib.Core.List.{List, [], ◌∷◌}
use mathlib.Core.Path.{◌≡◌, refl}
use native.Mathlib.Omega.{arith}
use Rattle.std.proofs.Math.Facts.{ltb_yes}
use Rattle.codeword.specs.Sizes.{capacities, is_capacity}
use Rattle.refusal.proofs.Among.{first_or_further, nowhere}
use Rattle.refusal.proofs.Tests.{and_left, and_right, at_below, below}
use Rattle.refusal.specs.Among.{among}
use Rattle.refusal.specs.Pick.{pick}
use Rattle.check_words.specs.Sizes.{check_counts, check_count, most_data, place_of}

-- a number that differs from each of a list is not among them
abbrev pub Unlike : ℕ → List ℕ → Type 0
Unlike n [] = Unit {0}
Unlike n (x ∷ xs) = (n ≡ x → ⊥) × (Unlike n xs)

pub unlike : (n : ℕ) (xs : List ℕ) → Unlike n xs → among n xs ≡ true → ⊥
unlike n [] u e = nowhere n e
unlike n (x ∷ xs) u e = first_or_further n x xs e u.0 (unlike n xs u.1)

pub several : (n : ℕ) → is_capacity n ≡ true → (n ≤ most_data → Unlike n capacities) → leb n most_data ≡ false
several n e f = go (leb n most_data) refl
  where
    go : (b : Bool) → leb n most_data ≡ b → b ≡ false
    go true q = absurd (unlike n capacities (f (leb-true _ _ q)) e)
    go false q = refl

-- ---- the sizes
abbrev in_size : ℕ → Bool
in_size n = ltb (place_of n capacities) 14 && (leb (n + check_count n) 242 && (leb 1 (check_count n) && leb (check_count n) 68))

all_small : T (below 175 (λ n. pick (is_capacity n) (in_size n) true))
unfolding among capacities check_count check_counts place_of
all_small = tt

pub record Small (n : ℕ) : Type 0 where
  pub most : n + check_count n ≤ 242
  pub some : 1 ≤ check_count n
  pub few : check_count n ≤ 68
  pub place : place_of n capacities < 14

pub small : (n : ℕ) → is_capacity n ≡ true → n ≤ most_data → Small n
small n e h = go (rw e at (at_below 175 (λ n. pick (is_capacity n) (in_size n) true) all_small n (omega arith)))
  where
    go : T (in_size n) → Small n
    go t =
        let u = and_right (ltb (place_of n capacities) 14) _ t in
        let v = and_right (leb (n + check_count n) 242) _ u in
        record {
          place = ltb_yes (and_left (ltb (place_of n capacities) 14) _ t);
          most = leb→le _ _ (and_left (leb (n + check_count n) 242) _ u);
          some = leb→le _ _ (and_left (leb 1 (check_count n)) _ v);
          few = leb→le _ _ (and_right (leb 1 (check_count n)) _ v);
        }
