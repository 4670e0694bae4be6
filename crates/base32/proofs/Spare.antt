-- The spare bits: they are the low bits of the last value, by the count of characters left over behind the groups of eight.
-- Assumes nothing.
use Prim.Native.Nat.{ℕ, suc, ◌-◌, ◌%◌}
use mathlib.Core.List.{List, [], ◌∷◌}
use mathlib.Core.Path.{◌≡◌, refl}
use native.Mathlib.Omega.{arith}
use lib.ListN.{length, get_or}
use Rattle.base32.specs.Base32.{value_of}
use Rattle.base32.specs.inner.Code.{spare, spare_bits_of, spare_in}

pub spare_last : (l : List ℕ) → spare_in (length l % 8) (value_of (get_or l (length l - 1) 0)) ≡ spare_bits_of l
unfolding spare
spare_last [] = refl
spare_last (a ∷ []) = refl
spare_last (a ∷ b ∷ []) = refl
spare_last (a ∷ b ∷ c ∷ []) = refl
spare_last (a ∷ b ∷ c ∷ d ∷ []) = refl
spare_last (a ∷ b ∷ c ∷ d ∷ f ∷ []) = refl
spare_last (a ∷ b ∷ c ∷ d ∷ f ∷ g ∷ []) = refl
spare_last (a ∷ b ∷ c ∷ d ∷ f ∷ g ∷ h ∷ []) = refl
spare_last (a ∷ b ∷ c ∷ d ∷ f ∷ g ∷ h ∷ i ∷ []) = refl
spare_last (a ∷ b ∷ c ∷ d ∷ f ∷ g ∷ h ∷ i ∷ j ∷ l) =
    let e : length (a ∷ b ∷ c ∷ d ∷ f ∷ g ∷ h ∷ i ∷ j ∷ l) % 8 ≡ length (j ∷ l) % 8 = omega arith in
    let z : length (a ∷ b ∷ c ∷ d ∷ f ∷ g ∷ h ∷ i ∷ j ∷ l) - 1 ≡ suc (suc (suc (suc (suc (suc (suc (suc (length l)))))))) = omega arith in
    let w : length (j ∷ l) - 1 ≡ length l = omega arith in
    rw (e, z) (rw w at (spare_last (j ∷ l)))
