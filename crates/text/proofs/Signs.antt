-- The signature: its characters up to the first outside the alphabet, and each of its refusals.
-- Assumes nothing.
use Prim.Native.Nat.{ℕ, zero, suc, ◌+◌, ◌-◌, ◌%◌, ◌≤◌, ◌<◌}
use mathlib.Core.Bool.{Bool, true, false, ◌||◌}
use mathlib.Core.List.{List, [], ◌∷◌}
use mathlib.Core.Path.{◌≡◌, refl, sym, ap, ◌∙◌}
use native.Mathlib.Omega.{arith}
use lib.Dec.{eqb}
use lib.ListN.{length, get_or}
use borrow.Author.Tests.{eqb-true, eq-eqb, ne_eqb}
use Rattle.std.specs.Prelude.{not, Some, None, position}
use Rattle.std.specs.List.{AllPass}
use Rattle.std.proofs.lemmas.List.Elements.{All-tail, All-from_get_or}
use Rattle.std.proofs.lemmas.List.Quantifiers.{position-Some}
use Rattle.refusal.specs.Pick.{pick}
use Rattle.refusal.specs.Answers.{good, refused}
use Rattle.refusal.specs.Numbers.{signature_length, spare_bits}
use Rattle.refusal.proofs.Binds.{by_or}
use Rattle.base32.specs.Base32.{in_alphabet, decoded, value_of}
use Rattle.base32.specs.inner.Code.{spare_bits_of, spare_in}
use Rattle.base32.proofs.Spare.{spare_last}
use Rattle.header.specs.declared.Version.{Version}
use Rattle.text.specs.Signature.{length_of_chars, wrong_number, signature_chars, read_signature, spare_of}
use Rattle.text.proofs.Marks.{none_passes}

turn : (b t : Bool) → not b ≡ t → b ≡ not t
turn true t e = ap not e
turn false t e = ap not e

chars_right : (v : Version) (p : ℕ) (l : List ℕ) → AllPass in_alphabet l → signature_chars v p l ≡ good tt
unfolding signature_chars
chars_right v p [] a = refl
chars_right v p (c ∷ l) a = rw (a 0 0 (omega arith), chars_right v (suc p) l (All-tail (λ d. in_alphabet d ≡ true) c l a))

chars_wrong : (v : Version) (l : List ℕ) (k p : ℕ) → k < length l → not (in_alphabet (get_or l k 0)) ≡ true → ((j : ℕ) → j < k → not (in_alphabet (get_or l j 0)) ≡ false)
    → signature_chars v p l ≡ refused (wrong_number v (get_or l k 0)) (p + k)
unfolding signature_chars
chars_wrong v [] k p h bad ok = absurd (omega arith)
chars_wrong v (c ∷ l) zero p h bad ok = let e : p ≡ p + 0 = omega arith in rw (turn (in_alphabet c) true bad) (ap (refused (wrong_number v c)) e)
chars_wrong v (c ∷ l) (suc k) p h bad ok =
    let e : suc p + k ≡ p + suc k = omega arith in
    rw (turn (in_alphabet c) false (ok 0 (omega arith)), chars_wrong v l k (suc p) (omega arith) bad (λ j i. ok (suc j) (omega arith))) (ap (refused (wrong_number v (get_or l k 0))) e)

pub all_in : (l : List ℕ) → None ≡ position (λ c. not (in_alphabet c)) l → AllPass in_alphabet l
all_in l e = All-from_get_or (λ c. in_alphabet c ≡ true) l 0 (λ k h. turn (in_alphabet (get_or l k 0)) false (none_passes (λ c. not (in_alphabet c)) l (sym e) k h))

-- the spare bits of the three lengths
pub spare_is : (l : List ℕ) → length_of_chars (length l) ≡ true → spare_of l ≡ spare_bits_of l
spare_is l e = by_or (eqb (length l) 103 || eqb (length l) 154) (eqb (length l) 212) e
    (λ e. by_or (eqb (length l) 103) (eqb (length l) 154) e (λ e. of 103 (eqb-true (length l) 103 e) (λ v. refl)) (λ e. of 154 (eqb-true (length l) 154 e) (λ v. refl)))
    (λ e. of 212 (eqb-true (length l) 212 e) (λ v. refl))
  where
    of : (n : ℕ) → length l ≡ n → ((v : ℕ) → v % pick (eqb n 103) 8 (pick (eqb n 154) 4 16) ≡ spare_in (n % 8) v) → spare_of l ≡ spare_bits_of l
    of n z same =
        ap (λ k. value_of (get_or l (length l - 1) 0) % pick (eqb k 103) 8 (pick (eqb k 154) 4 16)) z
        ∙ same (value_of (get_or l (length l - 1) 0))
        ∙ ap (λ k. spare_in (k % 8) (value_of (get_or l (length l - 1) 0))) (sym z)
        ∙ spare_last l

-- each return
module _ (v : Version) (p : ℕ) (l : List ℕ) where
  pub sign_wrong : (k : ℕ) → Some k ≡ position (λ c. not (in_alphabet c)) l → read_signature v p l ≡ refused (wrong_number v (get_or l k 0)) (p + k)
  unfolding read_signature
  sign_wrong k e = let q = position-Some (λ c. not (in_alphabet c)) l k 0 (sym e) in rw (chars_wrong v l k p q.0 q.1 q.2)

  pub sign_length : AllPass in_alphabet l → length_of_chars (length l) ≡ false → read_signature v p l ≡ refused signature_length p
  unfolding read_signature
  sign_length a n = rw (chars_right v p l a, n)

  -- the spare bits s
  module _ (s : ℕ) (a : AllPass in_alphabet l) (n : length_of_chars (length l) ≡ true) (is : s ≡ spare_in (length l % 8) (value_of (get_or l (length l - 1) 0))) where
    same : spare_of l ≡ s
    same = spare_is l n ∙ sym (spare_last l) ∙ sym is

    pub sign_spare : (s ≡ 0 → ⊥) → read_signature v p l ≡ refused spare_bits p
    unfolding read_signature
    sign_spare some = rw (chars_right v p l a, n, ne_eqb (spare_of l) 0 (λ z. some (sym same ∙ z)))

    pub sign_good : s ≡ 0 → read_signature v p l ≡ good (decoded l)
    unfolding read_signature
    sign_good none = rw (chars_right v p l a, n, eq-eqb (spare_of l) 0 (same ∙ none))

pub length_most : (n : ℕ) → length_of_chars n ≡ true → n ≤ 212
length_most n e = by_or (eqb n 103 || eqb n 154) (eqb n 212) e
    (λ e. by_or (eqb n 103) (eqb n 154) e (λ e. omega (arith, eqb-true n 103 e)) (λ e. omega (arith, eqb-true n 154 e)))
    (λ e. omega (arith, eqb-true n 212 e))

-- what each return of `read_signature` needs
pub ruleset each_return = (all_in, length_most, sign_wrong, sign_length, sign_spare, sign_good)
