-- LOOKING AT EVERY PAD CHANGES NO SYMBOL THAT IS WRITTEN. Any symbol of a text can be padded anew: it has the same codewords before its
-- first pad, the same length, and is read as the same text. So what is best among the symbols, whatever their pads, is what is best
-- among those with right pads; and none fits of the ones just if none fits of the others.
-- Assumes nothing.
use Prim.Native.Nat.{ℕ, suc, ◌+◌, ◌-◌, ◌≤◌, ◌<◌}
use mathlib.Core.Bool.{Bool, true, false}
use mathlib.Core.List.{List, ◌++◌}
use mathlib.Core.Path.{◌≡◌, refl, ap, sym, subst, ◌∙◌}
use native.Mathlib.Omega.{arith}
use lib.ListN.{length, take, get_or, length-append}
use lib.Seq.{take_at, get_or-append-add, length-take-le}
use lib.Dec.{ltb}
use borrow.Author.Tests.{ltb-true, ltb-false, le-leb}
use Rattle.refusal.proofs.Tests.{clash}
use Rattle.refusal.specs.Limits.{limit}
use Rattle.codeword.specs.Sizes.{is_capacity}
use Rattle.codeword.specs.Pads.{pad_at, first_wrong}
use Rattle.codeword.specs.Reading.{Reading, good, refused, in_ascii, read, read_to_pad, read_symbol}
use Rattle.codeword.specs.Best.{Reader, used_of, text_of, is_good, used_by, SymbolBy, ◌≼◌, BestBy, NoneFitsBy, Best, NoneFits}
use Rattle.codeword.proofs.Pads.{FirstWrong, first_wrong_law, all_right, from_checked, right_checked}
use Rattle.optimum.specs.Write.{padding}
use Rattle.optimum.proofs.Padding.{bytes_of, take_bytes, length_padding, pad_at_law, first_pad, pad_bytes, append_bytes}
use Rattle.optimum.proofs.Counted.{counted}
use Rattle.optimum.proofs.Cut.{cut, marked}
use Rattle.optimum.proofs.Symbols.{out_of_front}
use Rattle.optimum.proofs.Unique.{one_best}

-- what a symbol says, by either reading
record Said (R : Reader) (t ws : List ℕ) : Type 0 where
  b : Bool
  is : R ws limit ≡ good t (used_by R ws) b

said : (R : Reader) (t ws : List ℕ) → SymbolBy R t ws → Said R t ws
unfolding used_by
said R t ws S = go (R ws limit) refl
  where
    go : (o : Reading) → R ws limit ≡ o → Said R t ws
    go (refused k p) e = let z : false ≡ true = sym (ap is_good e) ∙ S.accepted in clash cc
    go (good t' n b) e =
        let p : t' ≡ t = sym (ap text_of e) ∙ S.text in
        let q : used_of (R ws limit) ≡ n = ap used_of e in
        record { b = b; is = e ∙ ap (λ t. good t n b) p ∙ ap (λ n. good t n b) (sym q) }

says : (R : Reader) (t ws : List ℕ) (n : ℕ) (b : Bool) → ((i : ℕ) → get_or ws i 0 < 256) → R ws limit ≡ good t n b → SymbolBy R t ws
says R t ws n b h e = record { bytes = h; accepted = ap is_good e; text = ap text_of e }

counts : (R : Reader) (t ws : List ℕ) (n : ℕ) (b : Bool) → R ws limit ≡ good t n b → used_by R ws ≡ n
unfolding used_by
counts R t ws n b e = ap used_of e

-- FROM RIGHT PADS TO ANY
module _ (t ws : List ℕ) (S : SymbolBy read_symbol t ws) where
  unchecked : (read_to_pad ws limit ≡ good t (used_by read_symbol ws) (said read_symbol t ws S).b) × (length ws ≤ first_wrong (used_by read_symbol ws) ws)
  unfolding read_symbol
  unchecked = from_checked ws (read_to_pad ws limit) t (used_by read_symbol ws) (said read_symbol t ws S).b (said read_symbol t ws S).is

  forget : SymbolBy read_to_pad t ws
  forget = says read_to_pad t ws _ _ S.bytes unchecked.0

  same_count : used_by read_to_pad ws ≡ used_by read_symbol ws
  same_count = counts read_to_pad t ws _ _ unchecked.0

-- FROM ANY PADS TO RIGHT ONES
module _ (t ws : List ℕ) (S : SymbolBy read_to_pad t ws) (right : (i : ℕ) → used_by read_to_pad ws ≤ i → i < length ws → get_or ws i 0 ≡ pad_at (used_by read_to_pad ws) i) where
  now_checked : read_symbol ws limit ≡ good t (used_by read_to_pad ws) (said read_to_pad t ws S).b
  unfolding read_symbol
  now_checked = right_checked ws (said read_to_pad t ws S).is (all_right (used_by read_to_pad ws) ws right)

  recall : SymbolBy read_symbol t ws
  recall = says read_symbol t ws _ _ S.bytes now_checked

  same_count' : used_by read_symbol ws ≡ used_by read_to_pad ws
  same_count' = counts read_symbol t ws _ _ now_checked

-- the same text and count, in a symbol of the same size, with right pads
pub record Repadded (t ws : List ℕ) : Type 0 where
  pub vs : List ℕ
  pub symbol : SymbolBy read_symbol t vs
  pub size : length vs ≡ length ws
  pub count : used_by read_symbol vs ≡ used_by read_to_pad ws
  pub front : take (used_by read_to_pad ws) vs ≡ take (used_by read_to_pad ws) ws

module _ (t ws : List ℕ) (n k : ℕ) (long : length ws ≡ n + suc k) (bytes : (i : ℕ) → get_or ws i 0 < 256) (size : is_capacity (length ws) ≡ true)
    (is : read ws in_ascii limit ≡ good t n true) where
  abbrev vs : List ℕ
  vs = take n ws ++ padding n n (suc k)

  front_count : length (take n ws) ≡ n
  front_count = length-take-le n ws (omega arith)

  length_vs : length vs ≡ length ws
  length_vs = omega (arith, length-append (take n ws) (padding n n (suc k)), front_count, length_padding n n (suc k))

  read_vs : read_to_pad vs limit ≡ good t n true
  unfolding read_to_pad
  read_vs =
      let c : is_capacity (length vs) ≡ true = rw length_vs size in
      rw (c, le-leb limit limit (omega arith)) (rw (first_pad n) (cut ws in_ascii n (padding n (suc n) k) limit t is))

  right_vs : (i : ℕ) → n ≤ i → i < length vs → get_or vs i 0 ≡ pad_at n i
  right_vs i h g =
      let e : length (take n ws) + (i - n) ≡ i = omega (arith, front_count) in
      let f : n + (i - n) ≡ i = omega arith in
      sym (ap (λ j. get_or vs j 0) e) ∙ get_or-append-add (take n ws) (padding n n (suc k)) (i - n) 0
      ∙ pad_at_law n n (suc k) (i - n) (omega (arith, length_vs, long)) ∙ ap (pad_at n) f

  now_vs : read_symbol vs limit ≡ good t n true
  unfolding read_symbol
  now_vs = right_checked vs read_vs (all_right n vs right_vs)

  padded_anew : used_by read_to_pad ws ≡ n → Repadded t ws
  padded_anew q =
      record {
        vs = vs;
        symbol = says read_symbol t vs n true (append_bytes (take n ws) (padding n n (suc k)) (take_bytes n ws (bytes_of ws bytes)) (pad_bytes n n (suc k))) now_vs;
        size = length_vs;
        count = counts read_symbol t vs n true now_vs ∙ sym q;
        front = rw q (take_at (take n ws) (padding n n (suc k)) n front_count);
      }

pub repadded : (t ws : List ℕ) → SymbolBy read_to_pad t ws → Repadded t ws
repadded t ws S = go (said read_to_pad t ws S).b (said read_to_pad t ws S).is
  where
    go : (b : Bool) → read_to_pad ws limit ≡ good t (used_by read_to_pad ws) b → Repadded t ws
    go false e =
        let r = out_of_front t ws (used_by read_to_pad ws) false e in
        let l : used_by read_to_pad ws ≡ length ws = counted ws in_ascii limit t (used_by read_to_pad ws) false r.1 in
        record {
          vs = ws;
          symbol = recall t ws S (λ i h g. absurd (omega arith));
          size = refl;
          count = same_count' t ws S (λ i h g. absurd (omega arith));
          front = refl;
        }
    go true e =
        let r = out_of_front t ws (used_by read_to_pad ws) true e in
        let l : used_by read_to_pad ws < length ws = counted ws in_ascii limit t (used_by read_to_pad ws) true r.1 in
        padded_anew t ws (used_by read_to_pad ws) (length ws - suc (used_by read_to_pad ws)) (omega arith) S.bytes r.0 r.1 refl

-- THE BEST SYMBOL IS THE SAME
pub checked_best : (t : List ℕ) (max : ℕ) (ws : List ℕ) → BestBy read_to_pad t max ws → Best t max ws
checked_best t max ws B =
    record {
      symbol = recall t ws B.symbol B.padding;
      permitted = B.permitted;
      smallest = λ vs S. B.smallest vs (forget t vs S);
      fewest = λ vs S l. omega (arith, q, same_count t vs S, B.fewest vs (forget t vs S) l);
      largest = λ vs S l e. rw q (B.largest vs (forget t vs S) l (same_count t vs S ∙ e ∙ q));
      padding = λ i h g. rw q (B.padding i (omega (arith, q)) g);
    }
  where
    q : used_by read_symbol ws ≡ used_by read_to_pad ws
    q = same_count' t ws B.symbol B.padding

pub unchecked_best : (t : List ℕ) (max : ℕ) (ws : List ℕ) → Best t max ws → BestBy read_to_pad t max ws
unchecked_best t max ws B =
    record {
      symbol = forget t ws B.symbol;
      permitted = B.permitted;
      smallest = λ vs S. let P = repadded t vs S in omega (arith, P.size, B.smallest P.vs P.symbol);
      fewest = λ vs S l. let P = repadded t vs S in omega (arith, q, P.count, B.fewest P.vs P.symbol (P.size ∙ l));
      largest = λ vs S l e.
          let P = repadded t vs S in
          let f : used_by read_to_pad vs ≡ used_by read_symbol ws = e ∙ q in
          rw q
          (subst (λ x. x ≼ take (used_by read_symbol ws) ws) (ap (λ n. take n P.vs) (sym f) ∙ P.front ∙ ap (λ n. take n vs) f)
          (B.largest P.vs P.symbol (P.size ∙ l) (P.count ∙ f)));
      padding = λ i h g. rw q (B.padding i (omega (arith, q)) g);
    }
  where
    q : used_by read_to_pad ws ≡ used_by read_symbol ws
    q = same_count t ws B.symbol

pub checked_none : (t : List ℕ) (max : ℕ) → NoneFitsBy read_to_pad t max → NoneFits t max
checked_none t max N = record { nothing = λ vs S. N.nothing vs (forget t vs S) }

pub unchecked_none : (t : List ℕ) (max : ℕ) → NoneFits t max → NoneFitsBy read_to_pad t max
unchecked_none t max N = record { nothing = λ vs S. let P = repadded t vs S in omega (arith, P.size, N.nothing P.vs P.symbol) }

-- and so the one best symbol is one, whichever way it is asked for
pub same_symbol : (t : List ℕ) (max : ℕ) (ws vs : List ℕ) → BestBy read_to_pad t max ws → Best t max vs → ws ≡ vs
same_symbol t max ws vs B D = one_best t max ws vs (checked_best t max ws B) D

-- THE PLACE OF 39 lies behind the first pad, which is right by being 129
pub behind_first : (t ws : List ℕ) (n : ℕ) → read_to_pad ws limit ≡ good t n true → n < first_wrong n ws
behind_first t ws n e = go (first_wrong_law n ws) (ltb n (first_wrong n ws)) refl
  where
    r : (is_capacity (length ws) ≡ true) × (read ws in_ascii limit ≡ good t n true)
    r = out_of_front t ws n true e

    go : FirstWrong n ws (first_wrong n ws) → (x : Bool) → ltb n (first_wrong n ws) ≡ x → n < first_wrong n ws
    go F true q = ltb-true n (first_wrong n ws) q
    go F false q =
        let p : first_wrong n ws ≡ n = omega (arith, F.low, ltb-false n (first_wrong n ws) q) in
        let l : n < length ws = counted ws in_ascii limit t n true r.1 in
        absurd
        (F.wrong (omega arith) (rw p (marked ws in_ascii n limit t r.1 ∙ sym (first_pad n))))
