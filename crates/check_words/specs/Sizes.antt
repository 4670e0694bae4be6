-- The 14 sizes with a single block: document 02, K3.
use Rattle.std.specs.Prelude.{ℕ, suc, List, [], ◌∷◌, eqb, get_or}
use Rattle.refusal.specs.Pick.{pick}
use Rattle.codeword.specs.Sizes.{capacities}

-- The check words of the first 14 capacities, in their order (10x10 up to 48x48):
unfoldable pub check_counts : List ℕ
check_counts = 5 ∷ 7 ∷ 10 ∷ 12 ∷ 14 ∷ 18 ∷ 20 ∷ 24 ∷ 28 ∷ 36 ∷ 42 ∷ 48 ∷ 56 ∷ 68 ∷ []

-- the largest of these capacities
abbrev pub most_data : ℕ
most_data = 174

-- the place of n in a list, or the list's length where it has none
unfoldable pub place_of : ℕ → List ℕ → ℕ
place_of n [] = 0
place_of n (x ∷ xs) = pick (eqb x n) 0 (suc (place_of n xs))

-- the check words of the size with n data codewords
unfoldable pub check_count : ℕ → ℕ
check_count n = get_or check_counts (place_of n capacities) 0
