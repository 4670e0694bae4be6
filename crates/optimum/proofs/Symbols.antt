-- What a symbol of a text tells: its count of codewords is a capacity, its pads are right, and its codewords are read as the text with just the room
-- that the text takes; and back, from the codewords' reading to the symbol's.
-- Assumes nothing.
use Prim.Native.Nat.{ℕ, ◌≤◌}
use mathlib.Core.Bool.{Bool, true, false}
use mathlib.Core.List.{List}
use mathlib.Core.Path.{◌≡◌, refl, ap, sym, ◌∙◌}
use native.Mathlib.Omega.{arith}
use lib.ListN.{length}
use borrow.Author.Tests.{le-leb}
use Rattle.refusal.proofs.Tests.{clash, by_test}
use Rattle.refusal.specs.Limits.{limit}
use Rattle.codeword.specs.Sizes.{is_capacity}
use Rattle.codeword.specs.Reading.{Reading, good, refused, in_ascii, read, read_to_pad, read_symbol}
use Rattle.codeword.specs.Pads.{first_wrong}
use Rattle.codeword.proofs.Pads.{from_checked, right_checked}
use Rattle.codeword.specs.Best.{used_of, text_of, is_good, used_by, used, Symbol}
use Rattle.optimum.proofs.Room.{roomy}

pub into :
    (t ws : List ℕ) (n : ℕ) (b : Bool) (lent : ℕ) → is_capacity (length ws) ≡ true → limit ≤ lent → length ws ≤ first_wrong n ws →
    read ws in_ascii limit ≡ good t n b → read_symbol ws lent ≡ good t n b
unfolding read_symbol read_to_pad
into t ws n b lent i h p e = let q : read_to_pad ws lent ≡ good t n b = rw (i, le-leb limit lent h) e in right_checked ws q p

-- by the reading that does not look at the pads
pub out_of_front :
    (t ws : List ℕ) (n : ℕ) (b : Bool) → read_to_pad ws limit ≡ good t n b →
    (is_capacity (length ws) ≡ true) × (read ws in_ascii limit ≡ good t n b)
unfolding read_to_pad
out_of_front t ws n b e = by_test (is_capacity (length ws)) _ _ _ e (λ i q. (i, q)) (λ _ q. clash cc)

pub out_of :
    (t ws : List ℕ) (n : ℕ) (b : Bool) → read_symbol ws limit ≡ good t n b →
    (is_capacity (length ws) ≡ true) × (read ws in_ascii limit ≡ good t n b) × (length ws ≤ first_wrong n ws)
unfolding read_symbol
out_of t ws n b e =
    let q = from_checked ws (read_to_pad ws limit) t n b e in
    let r = out_of_front t ws n b q.0 in
    (r.0, r.1, q.1)

pub used_is : (t ws : List ℕ) (n : ℕ) (b : Bool) → read_symbol ws limit ≡ good t n b → used ws ≡ n
unfolding used_by
used_is t ws n b e = ap used_of e

pub record Read (t ws : List ℕ) : Type 0 where
  pub n : ℕ
  pub b : Bool
  pub symbol : read_symbol ws limit ≡ good t n b
  pub size : is_capacity (length ws) ≡ true
  pub count : used ws ≡ n
  pub is : read ws in_ascii (length t) ≡ good t n b

pub read_of : (t ws : List ℕ) → Symbol t ws → Read t ws
read_of t ws S = go (read_symbol ws limit) refl
  where
    go : (o : Reading) → read_symbol ws limit ≡ o → Read t ws
    go (refused k p) e = let z : false ≡ true = sym (ap is_good e) ∙ S.accepted in clash cc
    go (good t' n b) e =
        let p : t' ≡ t = sym (ap text_of e) ∙ S.text in
        let q : read_symbol ws limit ≡ good t n b = e ∙ ap (λ t. good t n b) p in
        let r = out_of t ws n b q in
        record {
          n = n;
          b = b;
          symbol = q;
          size = r.0;
          count = used_is t ws n b q;
          is = (roomy ws in_ascii limit t n b r.1).1 (length t) (omega arith);
        }
