-- The sizes: document 01, "Sizes".
use Rattle.std.specs.Prelude.{ℕ, Bool, List, [], ◌∷◌}
use Rattle.refusal.specs.Among.{among}

-- The 24 square sizes hold, in data codewords (10x10 up to 144x144):
unfoldable pub capacities : List ℕ
capacities =
    3 ∷ 5 ∷ 8 ∷ 12 ∷ 18 ∷ 22 ∷ 30 ∷ 36 ∷ 44 ∷ 62 ∷ 86 ∷ 114 ∷ 144 ∷ 174 ∷ 204 ∷ 280 ∷ 368 ∷ 456 ∷ 576 ∷ 696 ∷ 816 ∷ 1050 ∷ 1304 ∷ 1558 ∷ []

-- the largest of them
abbrev pub most_codewords : ℕ
most_codewords = 1558

abbrev pub is_capacity : ℕ → Bool
is_capacity n = among n capacities
