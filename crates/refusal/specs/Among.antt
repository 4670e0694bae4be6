-- Whether a number is among those of a list.
use Rattle.std.specs.Prelude.{ℕ, Bool, false, ◌||◌, List, [], ◌∷◌, eqb}

unfoldable pub among : ℕ → List ℕ → Bool
among n [] = false
among n (m ∷ l) = eqb n m || among n l
