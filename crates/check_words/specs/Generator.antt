-- The generator's words, and how one root more changes them. Only inner contracts cite this.
use Rattle.std.specs.Prelude.{suc, zero, ℕ, List, [], ◌++◌, ◌∷◌}
use Rattle.galois.specs.Field.{◌⊕◌, ◌⊗◌, pow}
use Rattle.galois.specs.Words.{plus, scale}

-- the generator (x + 2) (x + 4) .. (x + 2^k), without its leading 1
unfoldable pub coeffs : ℕ → List ℕ
coeffs zero = []
coeffs (suc k) = plus (coeffs k ++ (0 ∷ [])) (scale (pow (suc k)) (1 ∷ coeffs k))

-- one root more: the generator's words, with zeros behind them, times (x + r); p is the word before
unfoldable pub grow : ℕ → ℕ → List ℕ → List ℕ
grow r p [] = []
grow r p (w ∷ ws) = (w ⊕ r ⊗ p) ∷ grow r w ws
