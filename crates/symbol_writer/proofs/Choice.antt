-- The choice of the size, one capacity after the other.
-- Assumes nothing.
use mathlib.Core.Bool.{Bool, true, false}
use mathlib.Core.List.{List, ◌∷◌}
use mathlib.Core.Path.{◌≡◌}
use Prim.Native.Nat.{ℕ, ◌+◌, ◌≤◌, ◌<◌}
use native.Mathlib.Numerals.{add-one}
use lib.Dec.{T, leb, leb→le}
use lib.ListN.{length, drop, get_or}
use lib.Seq.{drop-cons}
use borrow.Author.Tests.{lt-ltb, le-ltb}
use Rattle.codeword.specs.Sizes.{capacities, most_codewords}
use Rattle.refusal.proofs.Tests.{below, at_below}
use Rattle.optimum.specs.Cost.{asc, cost}
use Rattle.optimum.specs.Write.{odd, Choice, at, nothing, choose, fewest}
use Rattle.symbol_writer.specs.declared.costs.Least.{Least}
use Rattle.symbol_writer.specs.Rows.{least_of, least_at}
use Rattle.symbol_writer.proofs.Rows.{allowed}

all_low : T (below 24 (λ k. leb (get_or capacities k 0) most_codewords))
unfolding capacities
all_low = tt

pub capacity_low : (l : List ℕ) (k : ℕ) → l ≡ capacities → k < 24 → get_or l k 0 ≤ most_codewords
capacity_low l k e h = rw e (leb→le (get_or capacities k 0) most_codewords (at_below 24 (λ k. leb (get_or capacities k 0) most_codewords) all_low k h))

-- what is chosen for every text of these costs
abbrev pub Same : (few : ℕ) → Least → (x : List ℕ → Choice) (y : List ℕ → Choice) → Type 0
Same few full x y = (t : List ℕ) → few ≡ fewest t → full ≡ least_of (cost false t asc) → x t ≡ y t

module _ (max few : ℕ) (full : Least) where
  module _ (l : List ℕ) (k : ℕ) (all : l ≡ capacities) (h : k < 24) where
    short : k < length l
    unfolding capacities
    short = rw all h

    on : drop k l ≡ get_or l k 0 ∷ drop (k + 1) l
    on = rw (add-one k) (drop-cons l k 0 short)

    pub too_large : max < get_or l k 0 → Same few full (λ t. nothing) (λ t. choose (drop k l) max t)
    unfolding choose
    too_large g t ef ex = rw (on, lt-ltb max (get_or l k 0) g)

    module _ (within : get_or l k 0 ≤ max) where
      pub with_pad : few < get_or l k 0 → Same few full (λ t. at (get_or l k 0) few true) (λ t. choose (drop k l) max t)
      unfolding choose
      with_pad g t ef ex = rw (on, le-ltb max (get_or l k 0) within, ← ef, lt-ltb few (get_or l k 0) g)

      module _ (g : get_or l k 0 ≤ few) (x : Bool) (p : x ≡ leb (least_at full (odd (get_or l k 0))) (get_or l k 0)) where
        pub exactly : x ≡ true → Same few full (λ t. at (get_or l k 0) (get_or l k 0) false) (λ t. choose (drop k l) max t)
        unfolding choose
        exactly q t ef ex = rw (on, le-ltb max (get_or l k 0) within, ← ef, le-ltb few (get_or l k 0) g, ← (allowed false t asc (get_or l k 0) full ex), ← p, q)

        pub larger : x ≡ false → Same few full (λ t. choose (drop k l) max t) (λ t. choose (drop (k + 1) l) max t)
        unfolding choose
        larger q t ef ex = rw (on, le-ltb max (get_or l k 0) within, ← ef, le-ltb few (get_or l k 0) g, ← (allowed false t asc (get_or l k 0) full ex), ← p, q)

pub none_left : (max few : ℕ) (full : Least) (l : List ℕ) (k : ℕ) → l ≡ capacities → k ≡ 24 → Same few full (λ t. nothing) (λ t. choose (drop k l) max t)
unfolding choose capacities
none_left max few full l k all e t ef ex = rw (all, e)
