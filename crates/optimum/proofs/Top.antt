-- THE WRITER IS RIGHT: the symbol of the chosen capacity is the best, and where none is chosen none fits. By the lower bound any
-- symbol of the text shows that its capacity will do, and has at least as many codewords before its pads; the writer attains the
-- bound with the largest codewords; the pads follow.
-- Assumes nothing.
use Prim.Native.Nat.{ℕ, ◌+◌, ◌-◌, ◌≤◌, ◌<◌}
use mathlib.Core.Bool.{Bool, true, false}
use mathlib.Core.List.{List, ◌++◌}
use mathlib.Core.Logic.{inl, inr}
use mathlib.Core.Path.{◌≡◌, refl, ap, sym, subst, ◌∙◌}
use native.Mathlib.Omega.{arith}
use lib.Dec.{ltb, leb}
use lib.ListN.{length, take, get_or, length-append}
use lib.Seq.{take_at, get_or-append-add}
use borrow.Author.Tests.{ltb-true, ltb-false, leb-true, leb-false}
use Rattle.refusal.specs.Limits.{limit}
use Rattle.codeword.specs.Sizes.{capacities}
use Rattle.codeword.specs.Reading.{good, in_ascii, read, read_symbol}
use Rattle.codeword.specs.Pads.{pad_at}
use Rattle.codeword.specs.Best.{text_of, is_good, used, Symbol, ◌≼◌, Best, NoneFits}
use Rattle.codeword.proofs.Sizes.{capacity_most}
use Rattle.codeword.proofs.Pads.{all_right}
use Rattle.optimum.specs.Cost.{asc, cost}
use Rattle.optimum.specs.Write.{odd, write, fewest, Choice, at, nothing, choose, padding, symbol_of}
use Rattle.optimum.proofs.Values.{Chars, Bytes}
use Rattle.optimum.proofs.Parity.{Par, parity}
use Rattle.optimum.proofs.Lower.{lower}
use Rattle.optimum.proofs.Room.{roomy}
use Rattle.optimum.proofs.Counted.{Len, counted}
use Rattle.optimum.proofs.Attain.{Rest, Written, attain}
use Rattle.optimum.proofs.Largest.{largest}
use Rattle.optimum.proofs.Padding.{bytes_of, length_padding, pad_at_law, pads_follow, pad_bytes, append_bytes}
use Rattle.optimum.proofs.Symbols.{into, used_is, Read, read_of}
use Rattle.optimum.proofs.Choice.{Feasible, Kind, Chosen, Found, chosen}

-- ANY SYMBOL OF THE TEXT
fewest_least : (t : List ℕ) (n : ℕ) (p : Bool) → cost true t asc p ≤ n → fewest t ≤ n
fewest_least t n true h = omega arith
fewest_least t n false h = omega arith

does : (t ws : List ℕ) (n : ℕ) (b : Bool) → read ws in_ascii (length t) ≡ good t n b → Feasible t (length ws)
does t ws n true e =
    inl (omega (arith, fewest_least t n (odd n) (lower ws in_ascii t n true e), counted ws in_ascii (length t) t n true e))
does t ws n false e = inr (rw (← (counted ws in_ascii (length t) t n false e)) (lower ws in_ascii t n false e))

-- THE SYMBOL OF THE CHOSEN CAPACITY

-- the fewest codewords in front of a pad have the parity of one of the two costs
fewest_enough : (t : List ℕ) → fewest t < 2000 → cost true t asc (odd (fewest t)) ≤ fewest t
fewest_enough t h = go (leb (cost true t asc false) (cost true t asc true)) refl
  where
    by : (p : Bool) → fewest t ≡ cost true t asc p → Par (cost true t asc p) p → cost true t asc (odd (fewest t)) ≤ fewest t
    by p e (inl q) = rw (e, q) (omega arith)
    by p e (inr l) = absurd (omega arith)

    go :
        (x : Bool) → leb (cost true t asc false) (cost true t asc true) ≡ x → cost true t asc (odd (fewest t)) ≤ fewest t
    go true e = by false (omega (arith, leb-true (cost true t asc false) (cost true t asc true) e)) (parity true t asc false)
    go false e = by true (omega (arith, leb-false (cost true t asc false) (cost true t asc true) e)) (parity true t asc true)

module _ (t : List ℕ) (c n : ℕ) (small : c < 2000) where
  within_size : (b : Bool) → Kind t c n b → n ≤ c
  within_size true k = omega (arith, k.0, k.1)
  within_size false k = omega (arith, k.0)

  will_do : (b : Bool) → Kind t c n b → cost b t asc (odd n) ≤ n
  will_do true k = rw k.0 (fewest_enough t (omega (arith, k.1)))
  will_do false k = rw k.0 k.2

  follows : (b : Bool) → Kind t c n b → Rest b (padding n n (c - n))
  follows true k = pads_follow n (c - n) (omega (arith, k.0, k.1))
  follows false k = let z : c - n ≡ 0 = omega (arith, k.0) in rw z

  -- another symbol of the capacity has no fewer codewords before its pads, and where as many, a pad just if this one has
  alike :
      (b b' : Bool) (n' : ℕ) → Kind t c n b → Len b' n' c → cost b' t asc (odd n') ≤ n' → (n ≤ n') × (n' ≡ n → b' ≡ b)
  alike true true n' k h g = (omega (arith, k.0, fewest_least t n' (odd n') g), λ q. refl)
  alike true false n' k h g = (omega (arith, k.0, k.1), λ q. absurd (omega (arith, k.0, k.1)))
  alike false true n' k h g = (omega (arith, k.0, k.1, fewest_least t n' (odd n') g), λ q. absurd (omega (arith, k.0)))
  alike false false n' k h g = (omega (arith, k.0), λ q. refl)

module _ (t : List ℕ) (short : length t ≤ limit) (chars : Chars t) (max c n : ℕ) (b : Bool) (G : Chosen capacities max t c n b) where
  small : c < 2000
  small = omega (arith, capacity_most c G.listed)

  n_low : n ≤ c
  n_low = within_size t c n small b G.kind

  unfoldable head : List ℕ
  head = write b n in_ascii t

  written : Written b n in_ascii t head
  unfolding head
  written = attain b n in_ascii t (omega (arith, small, n_low)) chars (will_do t c n small b G.kind)

  abbrev ws : List ℕ
  ws = head ++ padding n n (c - n)

  length_ws : length ws ≡ c
  length_ws = omega (arith, length-append head (padding n n (c - n)), written.count, length_padding n n (c - n), n_low)

  pads : (i : ℕ) → n ≤ i → i < c → get_or ws i 0 ≡ pad_at n i
  pads i h g =
      let e : length head + (i - n) ≡ i = omega (arith, written.count) in
      let f : n + (i - n) ≡ i = omega arith in
      sym (ap (λ j. get_or ws j 0) e) ∙ get_or-append-add head (padding n n (c - n)) (i - n) 0 ∙ pad_at_law n n (c - n) (i - n) (omega arith)
      ∙ ap (pad_at n) f

  reads : read_symbol ws limit ≡ good t n b
  reads =
      into t ws n b limit (rw length_ws G.listed) (omega arith) (all_right n ws (λ i h g. pads i h (omega (arith, length_ws))))
      ((roomy ws in_ascii (length t) t n b (written.reads (padding n n (c - n)) (follows t c n small b G.kind))).1 limit short)

  used_ws : used ws ≡ n
  used_ws = used_is t ws n b reads

  beside : (vs : List ℕ) (R : Read t vs) → length vs ≡ c → (n ≤ R.n) × (R.n ≡ n → R.b ≡ b)
  beside vs R l =
      alike t c n small b R.b R.n G.kind (subst (Len R.b R.n) l (counted vs in_ascii (length t) t R.n R.b R.is))
      (lower vs in_ascii t R.n R.b R.is)

  not_above : (vs : List ℕ) → Bytes vs → (R : Read t vs) → length vs ≡ c → R.n ≡ n → take n vs ≼ take n ws
  unfolding head
  not_above vs bs R l q =
      let r : R.b ≡ b = (beside vs R l).1 q in
      rw (take_at head (padding n n (c - n)) n written.count)
      (largest b n in_ascii t (omega (arith, small, n_low)) chars vs bs (R.is ∙ ap (λ k. good t k R.b) q ∙ ap (λ x. good t n x) r))

  best : Best t max ws
  best =
      record {
        symbol =
            record {
              bytes = append_bytes head (padding n n (c - n)) written.bytes (pad_bytes n n (c - n));
              accepted = ap is_good reads;
              text = ap text_of reads;
            };
        permitted = rw length_ws G.low;
        smallest = λ vs S.
            let R = read_of t vs S in omega (arith, length_ws, G.first (length vs) R.size (does t vs R.n R.b R.is));
        fewest = λ vs S l. let R = read_of t vs S in omega (arith, used_ws, R.count, (beside vs R (l ∙ length_ws)).0);
        largest = λ vs S l q.
            rw used_ws
            (not_above vs (bytes_of vs S.bytes) (read_of t vs S) (l ∙ length_ws) (sym (read_of t vs S).count ∙ q ∙ used_ws));
        padding = λ i h g. rw used_ws (pads i (omega (arith, used_ws)) (omega (arith, length_ws)));
      }

none_fits : (t : List ℕ) (max : ℕ) → Found capacities max t nothing → (vs : List ℕ) → Symbol t vs → max < length vs
none_fits t max F vs S = go (ltb max (length vs)) refl (read_of t vs S)
  where
    go : (x : Bool) → ltb max (length vs) ≡ x → Read t vs → max < length vs
    go true e R = ltb-true _ _ e
    go false e R = absurd (F (length vs) R.size (ltb-false _ _ e) (does t vs R.n R.b R.is))

-- THE WRITER
abbrev pub Answer : List ℕ → ℕ → Choice → Type 0
Answer t max (at c n b) = Best t max (symbol_of (at c n b) t)
Answer t max nothing = NoneFits t max

pub right : (t : List ℕ) → Chars t → length t ≤ limit → (max : ℕ) → Answer t max (choose capacities max t)
unfolding head
right t hs short max = go (choose capacities max t) (chosen max t)
  where
    go : (x : Choice) → Found capacities max t x → Answer t max x
    go (at c n b) G = best t short hs max c n b G
    go nothing F = record { nothing = none_fits t max F }

-- and its symbol has the capacity and the count that were chosen
abbrev pub Sized : List ℕ → Choice → Type 0
Sized t (at c n b) = (length (write b n in_ascii t) ≡ n) × (length (symbol_of (at c n b) t) ≡ c) × (used (symbol_of (at c n b) t) ≡ n)
Sized t nothing = Unit {0}

pub sized : (t : List ℕ) → Chars t → length t ≤ limit → (max : ℕ) → Sized t (choose capacities max t)
unfolding head
sized t hs short max = go (choose capacities max t) (chosen max t)
  where
    go : (x : Choice) → Found capacities max t x → Sized t x
    go (at c n b) G = ((written t short hs max c n b G).count, length_ws t short hs max c n b G, used_ws t short hs max c n b G)
    go nothing F = tt
