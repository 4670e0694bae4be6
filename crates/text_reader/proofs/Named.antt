-- Every refusal of a signature has a number above 0, as every refusal of a header has (`header_named` in crate `header`). By its checks.
-- Assumes nothing.
use Prim.Native.Nat.{ℕ, suc, ◌<◌}
use mathlib.Core.Bool.{Bool, true, false}
use mathlib.Core.List.{List, [], ◌∷◌}
use native.Mathlib.Omega.{arith}
use lib.Dec.{eqb}
use lib.ListN.{length}
use Rattle.refusal.specs.Pick.{pick}
use Rattle.refusal.specs.Numbers.{signature_length, signature_character, spare_bits, annex}
use Rattle.refusal.proofs.Named.{Named, fine, seq, check_then}
use Rattle.base32.specs.Base32.{in_alphabet, decoded}
use Rattle.header.specs.declared.Version.{Version}
use Rattle.header.specs.declared.Version.TheVariants.{V02, V03, V04}
use Rattle.text.specs.Signature.{wrong_number, length_of_chars, signature_chars, read_signature, spare_of}

wrong_named : (v : Version) (c : ℕ) → 0 < wrong_number v c
wrong_named V02 c = omega arith
wrong_named V03 c = omega arith
wrong_named V04 c = go (eqb c 29)
  where
    go : (b : Bool) → 0 < pick b annex signature_character
    go true = omega arith
    go false = omega arith

chars_named : (v : Version) (p : ℕ) (l : List ℕ) → Named (signature_chars v p l)
unfolding signature_chars
chars_named v p [] = fine tt
chars_named v p (c ∷ l) = check_then (in_alphabet c) (wrong_number v c) p _ (wrong_named v c) (chars_named v (suc p) l)

pub signature_named : (v : Version) (p : ℕ) (l : List ℕ) → Named (read_signature v p l)
unfolding read_signature
signature_named v p l =
    seq (signature_chars v p l) _ (chars_named v p l)
    (check_then (length_of_chars (length l)) signature_length p _ (omega arith)
    (check_then (eqb (spare_of l) 0) spare_bits p _ (omega arith) (fine (decoded l))))
