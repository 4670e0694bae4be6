-- What is written is read: a best symbol is read as its text with its count of codewords before the pads, with any lent text that
-- is long enough.
-- Assumes nothing.
use Prim.Native.Nat.{ℕ, ◌≤◌}
use mathlib.Core.Bool.{Bool}
use mathlib.Core.List.{List}
use mathlib.Core.Path.{◌≡◌, ap, sym, ◌∙◌}
use Rattle.refusal.specs.Limits.{limit}
use Rattle.codeword.specs.Reading.{good, read_symbol}
use Rattle.codeword.specs.Best.{used, Symbol, Best}
use Rattle.optimum.proofs.Symbols.{into, out_of, Read, read_of}

pub record Says (t ws : List ℕ) (lent : ℕ) : Type 0 where
  pub padded : Bool
  pub is : read_symbol ws lent ≡ good t (used ws) padded

pub symbol_read : (t ws : List ℕ) (lent : ℕ) → Symbol t ws → limit ≤ lent → Says t ws lent
symbol_read t ws lent S h = go (read_of t ws S)
  where
    go : Read t ws → Says t ws lent
    go R =
        record {
          padded = R.b;
          is =
              into t ws R.n R.b lent R.size h (out_of t ws R.n R.b R.symbol).2 (out_of t ws R.n R.b R.symbol).1
              ∙ ap (λ n. good t n R.b) (sym R.count);
        }

pub best_read : (t : List ℕ) (max : ℕ) (ws : List ℕ) (lent : ℕ) → Best t max ws → limit ≤ lent → Says t ws lent
best_read t max ws lent B h = symbol_read t ws lent B.symbol h
