-- Padding starts with 129. A later pad at place p (the first codeword is place 1) is 129 + ((149p mod 253) + 1), less 254 if above 254.
use Rattle.std.specs.Prelude.{ℕ, suc, ◌+◌, ◌-◌, ◌*◌, ◌%◌, List, [], ◌∷◌, ltb, eqb, length, drop, Option, Some, None}
use Rattle.refusal.specs.Pick.{pick}

abbrev pub later_pad : (p : ℕ) → ℕ
later_pad p = pick (ltb 254 (129 + (149 * p % 253 + 1))) (129 + (149 * p % 253 + 1) - 254) (129 + (149 * p % 253 + 1))

-- the pad at the index i, where the first pad stands at the index `first`
unfoldable pub pad_at : (first i : ℕ) → ℕ
pad_at first i = pick (eqb i first) 129 (later_pad (suc i))

-- the index of the first wrong pad, from the index i on, where the first pad stands at the index `first`; behind the last codeword if
-- none is wrong
unfoldable pub wrong_from : (first i : ℕ) → List ℕ → ℕ
wrong_from first i [] = i
wrong_from first i (w ∷ ws) = pick (eqb w (pad_at first i)) (wrong_from first (suc i) ws) i

-- in a symbol with so many codewords before the first pad: every codeword behind them is a pad
unfoldable pub first_wrong : (used : ℕ) → List ℕ → ℕ
first_wrong n ws = wrong_from n n (drop n ws)

-- the first wrong pad, if any
abbrev pub wrong_pad_in : (used : ℕ) → List ℕ → Option ℕ
wrong_pad_in n ws = pick (ltb (first_wrong n ws) (length ws)) (Some (first_wrong n ws)) None
