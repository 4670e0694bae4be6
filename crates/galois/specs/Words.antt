-- Lists of words, word by word: their sum, a multiple of them, and how many of them are not nothing.
use Rattle.std.specs.Prelude.{◌+◌, suc, zero, ℕ, List, [], ◌∷◌}
use Rattle.galois.specs.Field.{◌⊕◌, ◌⊗◌}

-- the exclusive or of two lists, word by word
unfoldable pub plus : List ℕ → List ℕ → List ℕ
plus [] b = b
plus (x ∷ a) [] = x ∷ a
plus (x ∷ a) (y ∷ b) = (x ⊕ y) ∷ plus a b

unfoldable pub scale : ℕ → List ℕ → List ℕ
scale c [] = []
scale c (w ∷ ws) = (c ⊗ w) ∷ scale c ws

-- the number of words that are not nothing
abbrev pub one : ℕ → ℕ
one zero = 0
one (suc w) = 1

unfoldable pub weight : List ℕ → ℕ
weight [] = 0
weight (w ∷ ws) = one w + weight ws
