-- The spare bits of any count of characters.
use Rattle.std.specs.Prelude.{ℕ, ◌%◌, List, [], ◌∷◌, map, eqb}
use Rattle.refusal.specs.Pick.{pick}
use Rattle.base32.specs.Base32.{value_of}

-- the spare low bits of the last value
unfoldable pub spare : List ℕ → ℕ
spare [] = 0
spare (a ∷ []) = a
spare (a ∷ b ∷ []) = b % 4
spare (a ∷ b ∷ c ∷ []) = c
spare (a ∷ b ∷ c ∷ d ∷ []) = d % 16
spare (a ∷ b ∷ c ∷ d ∷ e ∷ []) = e % 2
spare (a ∷ b ∷ c ∷ d ∷ e ∷ f ∷ []) = f
spare (a ∷ b ∷ c ∷ d ∷ e ∷ f ∷ g ∷ []) = g % 8
spare (a ∷ b ∷ c ∷ d ∷ e ∷ f ∷ g ∷ h ∷ l) = spare l

abbrev pub spare_bits_of : List ℕ → ℕ
spare_bits_of l = spare (map value_of l)

-- of the last value v, where r characters are left over behind the groups of eight
abbrev pub spare_in : (r v : ℕ) → ℕ
spare_in r v = pick (eqb r 0) 0 (pick (eqb r 2) (v % 4) (pick (eqb r 4) (v % 16) (pick (eqb r 5) (v % 2) (pick (eqb r 7) (v % 8) v))))
