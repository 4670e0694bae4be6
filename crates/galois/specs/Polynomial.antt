-- Lists of words as polynomials, the first word highest, and which of them are right: document 02, K3.
use Rattle.std.specs.Prelude.{◌<◌, ◌≤◌, ℕ, List, [], ◌∷◌, ◌≡◌}
use Rattle.galois.specs.Field.{◌⊕◌, ◌⊗◌, pow}

-- v times x to the number of words, and the words' value at x
unfoldable pub horner : ℕ → ℕ → List ℕ → ℕ
horner x v [] = v
horner x v (w ∷ ws) = horner x (v ⊗ x ⊕ w) ws

abbrev pub value_at : ℕ → List ℕ → ℕ
value_at x ws = horner x 0 ws

-- right by k check words: zero at 2, at its square, and so up to its k-th power
abbrev pub Right : ℕ → List ℕ → Type 0
Right k ws = (j : ℕ) → 1 ≤ j → j ≤ k → value_at (pow j) ws ≡ 0

abbrev pub Bytes : List ℕ → Type 0
Bytes [] = Unit {0}
Bytes (w ∷ ws) = (w < 256) × (Bytes ws)
