-- The signature, both ways: characters of the alphabet are their values' characters, 103, 154 and 212 characters are 64, 96 and 132
-- bytes, and the rest is Base32's own round trip.
-- Assumes nothing.
use Prim.Native.Nat.{ℕ, suc, ◌+◌, ◌*◌, ◌/◌, ◌%◌}
use mathlib.Core.Bool.{true}
use mathlib.Core.List.{List, [], ◌∷◌, map}
use mathlib.Core.Path.{◌≡◌, refl, ap, sym, ◌∙◌}
use native.Mathlib.Omega.{arith}
use lib.Dec.{eqb}
use lib.ListN.{length, length-map}
use borrow.Author.Tests.{eqb-true}
use Rattle.refusal.specs.Answers.{good}
use Rattle.refusal.specs.Numbers.{signature_length, spare_bits}
use Rattle.refusal.proofs.Binds.{same_good, by_check, by_seq, by_or}
use Rattle.base32.specs.Base32.{in_alphabet, value_of, char_of, values, Below}
use Rattle.base32.proofs.RoundTrip.{Fits, values_bytes, bytes_values, spare_values, values_below, length_values, length_bytes, char_value, value_char}
use Rattle.header.specs.declared.Version.{Version}
use Rattle.text.specs.Signature.{length_of_bytes, length_of_chars, wrong_number, signature_chars, read_signature, write_signature, spare_of}
use Rattle.text.proofs.Signs.{spare_is}
use Rattle.base32.specs.inner.Code.{spare}

-- the characters of a signature
chars_good : (v : Version) (p : ℕ) (l : List ℕ) (u : Unit {0}) → signature_chars v p l ≡ good u → (map char_of (map value_of l) ≡ l) × Below 32 (map value_of l)
unfolding signature_chars
chars_good v p [] u e = (refl, tt)
chars_good v p (c ∷ l) u e = by_check (in_alphabet c) (wrong_number v c) p _ e λ b e.
    let h = char_value c b in
    let r = chars_good v (suc p) l u e in
    (rw (h.0, r.0), (h.1, r.1))

chars_back : (v : Version) (p : ℕ) (l : List ℕ) → Below 32 l → (signature_chars v p (map char_of l) ≡ good tt) × (map value_of (map char_of l) ≡ l)
unfolding signature_chars
chars_back v p [] bs = (refl, refl)
chars_back v p (a ∷ l) bs =
    let h = value_char a bs.0 in
    let r = chars_back v (suc p) l bs.1 in
    (rw h.1 r.0, rw (h.0, r.1))

-- 103, 154 and 212 characters are 64, 96 and 132 bytes
sizes : (n m : ℕ) → length_of_chars n ≡ true → m ≡ 5 * n / 8 → Fits n × (length_of_bytes m ≡ true)
sizes n m e q =
    by_or _ _ e
    (λ e. by_or _ _ e
    (λ e. let z = eqb-true n 103 e in let w : m ≡ 64 = omega (arith, z) in (seven (ap (λ k. k % 8) z), rw w))
    (λ e. let z = eqb-true n 154 e in let w : m ≡ 96 = omega (arith, z) in (two (ap (λ k. k % 8) z), rw w)))
    (λ e. let z = eqb-true n 212 e in let w : m ≡ 132 = omega (arith, z) in (four (ap (λ k. k % 8) z), rw w))
  where
    seven : n % 8 ≡ 7 → Fits n
    seven h = record { one = λ i. omega arith; three = λ i. omega arith; six = λ i. omega arith }

    two : n % 8 ≡ 2 → Fits n
    two h = record { one = λ i. omega arith; three = λ i. omega arith; six = λ i. omega arith }

    four : n % 8 ≡ 4 → Fits n
    four h = record { one = λ i. omega arith; three = λ i. omega arith; six = λ i. omega arith }

sizes_back : (n m : ℕ) → length_of_bytes m ≡ true → n ≡ (8 * m + 4) / 5 → length_of_chars n ≡ true
sizes_back n m e q =
    by_or _ _ e
    (λ e. by_or _ _ e
    (λ e. let z = eqb-true m 64 e in let w : n ≡ 103 = omega (arith, z) in rw w)
    (λ e. let z = eqb-true m 96 e in let w : n ≡ 154 = omega (arith, z) in rw w))
    (λ e. let z = eqb-true m 132 e in let w : n ≡ 212 = omega (arith, z) in rw w)

-- A SIGNATURE THAT WAS READ is written as it stood
pub signature_covers : (v : Version) (p : ℕ) (l bs : List ℕ) → read_signature v p l ≡ good bs → write_signature bs ≡ good l
unfolding read_signature write_signature
signature_covers v p l bs e =
    by_seq (signature_chars v p l) _ e λ u eu e.
    by_check (length_of_chars (length l)) signature_length p _ e λ size e.
    by_check (eqb (spare_of l) 0) spare_bits p _ e λ sp e.
    let c = chars_good v p l u eu in
    let len : length bs ≡ 5 * length l / 8 = ap length (sym (same_good e)) ∙ length_bytes (map value_of l) ∙ ap (λ n. 5 * n / 8) (length-map l value_of) in
    let z = sizes (length l) (length bs) size len in
    let back = values_bytes (map value_of l) c.1 (sym (spare_is l size) ∙ eqb-true _ _ sp) (rw (length-map l value_of) z.0) in
    rw z.1 (ap good (ap (λ x. map char_of (values x)) (sym (same_good e)) ∙ ap (map char_of) back ∙ c.0))

-- A SIGNATURE THAT WAS WRITTEN is read as it was
pub signature_back : (v : Version) (p : ℕ) (l bs : List ℕ) → Below 256 bs → write_signature bs ≡ good l → read_signature v p l ≡ good bs
unfolding read_signature write_signature
signature_back v p l bs small e =
    by_check (length_of_bytes (length bs)) signature_length 0 _ e λ size e.
    let c = chars_back v p (values bs) (values_below bs small) in
    let len : length (map char_of (values bs)) ≡ (8 * length bs + 4) / 5 = length-map (values bs) char_of ∙ length_values bs in
    let long = sizes_back _ (length bs) size len in
    let none : spare_of (map char_of (values bs)) ≡ 0 = spare_is (map char_of (values bs)) long ∙ ap spare c.1 ∙ spare_values bs in
    rw (← same_good e, c.0, long, none, c.1) (ap good (bytes_values bs small))
