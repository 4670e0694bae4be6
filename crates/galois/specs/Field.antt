-- The field of 256 elements with polynomial 301. An element is a number below 256, its binary digits the coefficients.
use Rattle.std.specs.Prelude.{◌%◌, ◌*◌, ◌/◌, suc, zero, ℕ}
use Rattle.std.specs.Int.Bits.{bit_xor}

infixl 65 ◌⊕◌
infixl 70 ◌⊗◌
-- the sum: exclusive or
unfoldable pub ◌⊕◌ : ℕ → ℕ → ℕ
a ⊕ b = bit_xor a b

-- a where the digit is one, nothing where it is zero
abbrev pub keep : ℕ → ℕ → ℕ
keep zero a = 0
keep (suc d) a = a

-- twice a, less 301 (256 and 45) where that is above 255
unfoldable pub times2 : ℕ → ℕ
times2 a = bit_xor (2 * a % 256) (keep (a / 128 % 2) 45)

-- the product of a and the n low digits of b, by shift and add
unfoldable pub bits : ℕ → ℕ → ℕ → ℕ
bits zero a b = 0
bits (suc n) a b = bit_xor (keep (b % 2) a) (bits n (times2 a) (b / 2))

unfoldable pub ◌⊗◌ : ℕ → ℕ → ℕ
a ⊗ b = bits 8 (a % 256) (b % 256)

-- w times x to the n
unfoldable pub up : ℕ → ℕ → ℕ → ℕ
up x zero w = w
up x (suc n) w = up x n w ⊗ x

-- 2 to the n
abbrev pub pow : ℕ → ℕ
pow n = up 2 n 1
