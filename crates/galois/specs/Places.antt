-- The places of a list's words in the field. Only inner contracts and proofs cite this.
use Rattle.std.specs.Prelude.{suc, zero, ℕ, List, [], ◌∷◌}
use Rattle.galois.specs.Field.{pow}

-- the places of a list: the last word's is 1, the one before has 2, and so on
unfoldable pub locs : ℕ → List ℕ
locs zero = []
locs (suc n) = pow n ∷ locs n
