-- The signature: Base32 behind the mark 31, for 64, 96 or 132 bytes (document 01, "The text").
use Rattle.std.specs.Prelude.{ℕ, suc, ◌-◌, ◌%◌, Bool, ◌||◌, List, [], ◌∷◌, eqb, length, get_or}
use Rattle.refusal.specs.Pick.{pick}
use Rattle.refusal.specs.Answers.{Answer, good, ◌>>◌, check}
use Rattle.refusal.specs.Numbers.{signature_length, signature_character, spare_bits, annex}
use Rattle.base32.specs.Base32.{in_alphabet, value_of, decoded, encoded}
use Rattle.header.specs.declared.Version.{Version}
use Rattle.header.specs.declared.Version.TheVariants.{V02, V03, V04}

-- 64, 96 or 132 bytes: 103, 154 or 212 characters
abbrev pub length_of_bytes : ℕ → Bool
length_of_bytes n = eqb n 64 || eqb n 96 || eqb n 132

abbrev pub length_of_chars : ℕ → Bool
length_of_chars n = eqb n 103 || eqb n 154 || eqb n 212

-- the last character's low bits to spare: 3 of 103 characters, 2 of 154, 4 of 212
abbrev pub spare_of : List ℕ → ℕ
spare_of l = value_of (get_or l (length l - 1) 0) % pick (eqb (length l) 103) 8 (pick (eqb (length l) 154) 4 16)

-- a character outside the alphabet; in version 04 a 29 has a number of its own
abbrev pub wrong_number : Version → ℕ → ℕ
wrong_number V02 c = signature_character
wrong_number V03 c = signature_character
wrong_number V04 c = pick (eqb c 29) annex signature_character

-- the characters, left to right: 22, or 24 in version 04
unfoldable pub signature_chars : Version → (p : ℕ) → List ℕ → Answer (Unit {0})
signature_chars v p [] = good tt
signature_chars v p (c ∷ l) = check (in_alphabet c) (wrong_number v c) p >> signature_chars v (suc p) l

-- THE SIGNATURE'S BYTES, from the characters behind the 31; p is the place of the first
unfoldable pub read_signature : Version → (p : ℕ) → List ℕ → Answer (List ℕ)
read_signature v p l = do
  signature_chars v p l
  check (length_of_chars (length l)) signature_length p
  check (eqb (spare_of l) 0) spare_bits p
  good (decoded l)

-- and back
unfoldable pub write_signature : List ℕ → Answer (List ℕ)
write_signature l = do
  check (length_of_bytes (length l)) signature_length 0
  good (encoded l)
