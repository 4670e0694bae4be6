-- Base32 of RFC 4648 without padding: the alphabet both ways, and groups of eight values and five bytes.
use Rattle.std.specs.Prelude.{ℕ, ◌<◌, ◌+◌, ◌-◌, ◌*◌, ◌/◌, ◌%◌, Bool, ◌||◌, List, [], ◌∷◌, ◌++◌, map, ltb, take}
use Rattle.refusal.specs.Pick.{pick}
use Rattle.refusal.specs.Classes.{between, upper}

-- the alphabet is A to Z and 2 to 7
abbrev pub in_alphabet : ℕ → Bool
in_alphabet c = upper c || between 50 55 c

-- A to Z are 0 to 25, and 2 to 7 are 26 to 31
abbrev pub value_of : ℕ → ℕ
value_of c = pick (ltb c 65) (c - 24) (c - 65)

abbrev pub char_of : ℕ → ℕ
char_of v = pick (ltb v 26) (v + 65) (v + 24)

-- eight values of five bits are five bytes: aaaaabbb bbcccccd ddddeeee efffffgg ggghhhhh
abbrev pub five : (a b c d e f g h : ℕ) → List ℕ
five a b c d e f g h = (8 * a + b / 4) ∷ (64 * (b % 4) + 2 * c + d / 16) ∷ (16 * (d % 16) + e / 2) ∷ (128 * (e % 2) + 4 * f + g / 8) ∷ (32 * (g % 8) + h) ∷ []

-- of the last values, with zeros behind them, the whole bytes count
unfoldable pub bytes : List ℕ → List ℕ
bytes [] = []
bytes (a ∷ []) = []
bytes (a ∷ b ∷ []) = take 1 (five a b 0 0 0 0 0 0)
bytes (a ∷ b ∷ c ∷ []) = take 1 (five a b c 0 0 0 0 0)
bytes (a ∷ b ∷ c ∷ d ∷ []) = take 2 (five a b c d 0 0 0 0)
bytes (a ∷ b ∷ c ∷ d ∷ e ∷ []) = take 3 (five a b c d e 0 0 0)
bytes (a ∷ b ∷ c ∷ d ∷ e ∷ f ∷ []) = take 3 (five a b c d e f 0 0)
bytes (a ∷ b ∷ c ∷ d ∷ e ∷ f ∷ g ∷ []) = take 4 (five a b c d e f g 0)
bytes (a ∷ b ∷ c ∷ d ∷ e ∷ f ∷ g ∷ h ∷ l) = five a b c d e f g h ++ bytes l

-- five bytes are eight values: aaaaa aaabb bbbbb bcccc ccccd ddddd ddeee eeeee
abbrev pub eight : (a b c d e : ℕ) → List ℕ
eight a b c d e = (a / 8) ∷ (4 * (a % 8) + b / 64) ∷ (b / 2 % 32) ∷ (16 * (b % 2) + c / 16) ∷ (2 * (c % 16) + d / 128) ∷ (d / 4 % 32) ∷ (8 * (d % 4) + e / 32) ∷ (e % 32) ∷ []

-- of the last bytes, with zeros behind them, the values that hold their bits count
unfoldable pub values : List ℕ → List ℕ
values [] = []
values (a ∷ []) = take 2 (eight a 0 0 0 0)
values (a ∷ b ∷ []) = take 4 (eight a b 0 0 0)
values (a ∷ b ∷ c ∷ []) = take 5 (eight a b c 0 0)
values (a ∷ b ∷ c ∷ d ∷ []) = take 7 (eight a b c d 0)
values (a ∷ b ∷ c ∷ d ∷ e ∷ l) = eight a b c d e ++ values l

-- THE BYTES OF CHARACTERS, and the characters of bytes
abbrev pub decoded : List ℕ → List ℕ
decoded l = bytes (map value_of l)

abbrev pub encoded : List ℕ → List ℕ
encoded l = map char_of (values l)

-- each number of a list is below n
abbrev pub Below : ℕ → List ℕ → Type 0
Below n [] = Unit {0}
Below n (v ∷ l) = (v < n) × Below n l
