-- Characters of a list taken one by one.
use Rattle.std.specs.Prelude.{ℕ, zero, suc, List, [], ◌∷◌, get_or}

-- the n characters from the place p on
abbrev pub chars_at : (n p : ℕ) → List ℕ → List ℕ
chars_at zero p l = []
chars_at (suc n) p l = get_or l p 0 ∷ chars_at n (suc p) l
