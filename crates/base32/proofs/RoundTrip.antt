-- Base32 both ways: the values of the bytes of values, the bytes of the values of bytes, their counts, and the alphabet. Every step is
-- linear in quotients and remainders by numerals, group by group.
-- Assumes nothing.
use Prim.Native.Nat.{ℕ, suc, ◌+◌, ◌-◌, ◌*◌, ◌/◌, ◌%◌, ◌<◌, ◌≤◌}
use mathlib.Core.Bool.{Bool, true, false, ◌&&◌}
use mathlib.Core.List.{List, [], ◌∷◌}
use mathlib.Core.Path.{◌≡◌, refl}
use native.Mathlib.Omega.{arith}
use lib.Dec.{leb, ltb}
use lib.ListN.{length}
use borrow.Author.Tests.{leb-true, le-leb, lt-leb, ltb-true, ltb-false, lt-ltb, le-ltb}
use Rattle.refusal.proofs.Binds.{by_and, by_or}
use Rattle.base32.specs.Base32.{in_alphabet, value_of, char_of, bytes, values, Below}
use Rattle.base32.specs.inner.Code.{spare}

-- the bytes of a group, and its values, one by one
abbrev pub byte1 : (a b : ℕ) → ℕ
byte1 a b = 8 * a + b / 4

abbrev pub byte2 : (b c d : ℕ) → ℕ
byte2 b c d = 64 * (b % 4) + 2 * c + d / 16

abbrev pub byte3 : (d e : ℕ) → ℕ
byte3 d e = 16 * (d % 16) + e / 2

abbrev pub byte4 : (e f g : ℕ) → ℕ
byte4 e f g = 128 * (e % 2) + 4 * f + g / 8

abbrev pub byte5 : (g h : ℕ) → ℕ
byte5 g h = 32 * (g % 8) + h

abbrev pub value2 : (a b : ℕ) → ℕ
value2 a b = 4 * (a % 8) + b / 64

abbrev pub value4 : (b c : ℕ) → ℕ
value4 b c = 16 * (b % 2) + c / 16

abbrev pub value5 : (c d : ℕ) → ℕ
value5 c d = 2 * (c % 16) + d / 128

abbrev pub value7 : (d e : ℕ) → ℕ
value7 d e = 8 * (d % 4) + e / 32

-- eight values, from their bytes
v1 : (a b : ℕ) → b < 32 → byte1 a b / 8 ≡ a
v1 a b h = omega arith

v2 : (a b c d : ℕ) → b < 32 → c < 32 → d < 32 → value2 (byte1 a b) (byte2 b c d) ≡ b
v2 a b c d h i j = omega arith

v3 : (b c d : ℕ) → c < 32 → d < 32 → byte2 b c d / 2 % 32 ≡ c
v3 b c d i j = omega arith

v4 : (b c d e : ℕ) → d < 32 → e < 32 → value4 (byte2 b c d) (byte3 d e) ≡ d
v4 b c d e i j = omega arith

v5 : (d e f g : ℕ) → e < 32 → f < 32 → g < 32 → value5 (byte3 d e) (byte4 e f g) ≡ e
v5 d e f g h i j = omega arith

v6 : (e f g : ℕ) → f < 32 → g < 32 → byte4 e f g / 4 % 32 ≡ f
v6 e f g i j = omega arith

v7 : (e f g h : ℕ) → g < 32 → h < 32 → value7 (byte4 e f g) (byte5 g h) ≡ g
v7 e f g h i j = omega arith

v8 : (g h : ℕ) → h < 32 → byte5 g h % 32 ≡ h
v8 g h i = omega arith

-- the last value, where its spare bits are zero
e2 : (a b : ℕ) → b < 32 → b % 4 ≡ 0 → value2 (byte1 a b) 0 ≡ b
e2 a b h s = omega arith

e4 : (b c d : ℕ) → d < 32 → d % 16 ≡ 0 → value4 (byte2 b c d) 0 ≡ d
e4 b c d h s = omega arith

e5 : (d e : ℕ) → e < 32 → e % 2 ≡ 0 → value5 (byte3 d e) 0 ≡ e
e5 d e h s = omega arith

e7 : (e f g : ℕ) → g < 32 → g % 8 ≡ 0 → value7 (byte4 e f g) 0 ≡ g
e7 e f g h s = omega arith

-- five bytes, from their values
w1 : (a b : ℕ) → b < 256 → byte1 (a / 8) (value2 a b) ≡ a
w1 a b h = omega arith

w2 : (a b c : ℕ) → b < 256 → c < 256 → byte2 (value2 a b) (b / 2 % 32) (value4 b c) ≡ b
w2 a b c h i =
    let p : (4 * (a % 8) + b / 64) % 4 ≡ b / 64 = omega arith in
    let q : (16 * (b % 2) + c / 16) / 16 ≡ b % 2 = omega arith in
    let r : b / 2 / 32 ≡ b / 64 = omega arith in
    rw (p, q) (omega (arith, r))

w3 : (b c d : ℕ) → c < 256 → d < 256 → byte3 (value4 b c) (value5 c d) ≡ c
w3 b c d h i = omega arith

w4 : (c d e : ℕ) → d < 256 → e < 256 → byte4 (value5 c d) (d / 4 % 32) (value7 d e) ≡ d
w4 c d e h i = omega arith

w5 : (d e : ℕ) → e < 256 → byte5 (value7 d e) (e % 32) ≡ e
w5 d e h = omega arith

-- a count of values that holds whole bytes, with fewer than five bits to spare
pub record Fits (n : ℕ) : Type 0 where
  pub one : n % 8 ≡ 1 → ⊥
  pub three : n % 8 ≡ 3 → ⊥
  pub six : n % 8 ≡ 6 → ⊥

fewer : (n : ℕ) → Fits (suc (suc (suc (suc (suc (suc (suc (suc n)))))))) → Fits n
fewer n f = record { one = λ e. f.one (omega arith); three = λ e. f.three (omega arith); six = λ e. f.six (omega arith) }

-- VALUES OF BYTES OF VALUES
pub values_bytes : (l : List ℕ) → Below 32 l → spare l ≡ 0 → Fits (length l) → values (bytes l) ≡ l
unfolding values bytes spare
values_bytes [] b s f = refl
values_bytes (a ∷ []) bs s f = absurd (f.one refl)
values_bytes (a ∷ b ∷ []) bs s f = rw (v1 a b bs.1.0, e2 a b bs.1.0 s)
values_bytes (a ∷ b ∷ c ∷ []) bs s f = absurd (f.three refl)
values_bytes (a ∷ b ∷ c ∷ d ∷ []) bs s f =
    let hb : b < 32 = bs.1.0 in let hc : c < 32 = bs.1.1.0 in let hd : d < 32 = bs.1.1.1.0 in
    rw (v1 a b hb, v2 a b c d hb hc hd, v3 b c d hc hd, e4 b c d hd s)
values_bytes (a ∷ b ∷ c ∷ d ∷ e ∷ []) bs s f =
    let hb : b < 32 = bs.1.0 in let hc : c < 32 = bs.1.1.0 in let hd : d < 32 = bs.1.1.1.0 in let he : e < 32 = bs.1.1.1.1.0 in
    rw (v1 a b hb, v2 a b c d hb hc hd, v3 b c d hc hd, v4 b c d e hd he, e5 d e he s)
values_bytes (a ∷ b ∷ c ∷ d ∷ e ∷ g ∷ []) bs s f = absurd (f.six refl)
values_bytes (a ∷ b ∷ c ∷ d ∷ e ∷ g ∷ h ∷ []) bs s f =
    let hb : b < 32 = bs.1.0 in let hc : c < 32 = bs.1.1.0 in let hd : d < 32 = bs.1.1.1.0 in let he : e < 32 = bs.1.1.1.1.0 in
    let hg : g < 32 = bs.1.1.1.1.1.0 in let hh : h < 32 = bs.1.1.1.1.1.1.0 in
    rw (v1 a b hb, v2 a b c d hb hc hd, v3 b c d hc hd, v4 b c d e hd he, v5 d e g h he hg hh, v6 e g h hg hh, e7 e g h hh s)
values_bytes (a ∷ b ∷ c ∷ d ∷ e ∷ g ∷ h ∷ i ∷ l) bs s f =
    let hb : b < 32 = bs.1.0 in let hc : c < 32 = bs.1.1.0 in let hd : d < 32 = bs.1.1.1.0 in let he : e < 32 = bs.1.1.1.1.0 in
    let hg : g < 32 = bs.1.1.1.1.1.0 in let hh : h < 32 = bs.1.1.1.1.1.1.0 in let hi : i < 32 = bs.1.1.1.1.1.1.1.0 in
    rw (
      v1 a b hb,
      v2 a b c d hb hc hd,
      v3 b c d hc hd,
      v4 b c d e hd he,
      v5 d e g h he hg hh,
      v6 e g h hg hh,
      v7 e g h i hh hi,
      v8 h i hi,
      values_bytes l bs.1.1.1.1.1.1.1.1 s (fewer (length l) f),
    )

-- BYTES OF VALUES OF BYTES, with nothing to spare
pub bytes_values : (l : List ℕ) → Below 256 l → bytes (values l) ≡ l
unfolding values bytes
bytes_values [] bs = refl
bytes_values (a ∷ []) bs = rw (w1 a 0 (omega arith))
bytes_values (a ∷ b ∷ []) bs = rw (w1 a b bs.1.0, w2 a b 0 bs.1.0 (omega arith))
bytes_values (a ∷ b ∷ c ∷ []) bs =
    let hb : b < 256 = bs.1.0 in let hc : c < 256 = bs.1.1.0 in
    rw (w1 a b hb, w2 a b c hb hc, w3 b c 0 hc (omega arith))
bytes_values (a ∷ b ∷ c ∷ d ∷ []) bs =
    let hb : b < 256 = bs.1.0 in let hc : c < 256 = bs.1.1.0 in let hd : d < 256 = bs.1.1.1.0 in
    rw (w1 a b hb, w2 a b c hb hc, w3 b c d hc hd, w4 c d 0 hd (omega arith))
bytes_values (a ∷ b ∷ c ∷ d ∷ e ∷ l) bs =
    let hb : b < 256 = bs.1.0 in let hc : c < 256 = bs.1.1.0 in let hd : d < 256 = bs.1.1.1.0 in let he : e < 256 = bs.1.1.1.1.0 in
    rw (w1 a b hb, w2 a b c hb hc, w3 b c d hc hd, w4 c d e hd he, w5 d e he, bytes_values l bs.1.1.1.1.1)

pub spare_values : (l : List ℕ) → spare (values l) ≡ 0
unfolding values spare
spare_values [] = refl
spare_values (a ∷ []) = omega arith
spare_values (a ∷ b ∷ []) = omega arith
spare_values (a ∷ b ∷ c ∷ []) = omega arith
spare_values (a ∷ b ∷ c ∷ d ∷ []) = omega arith
spare_values (a ∷ b ∷ c ∷ d ∷ e ∷ l) = spare_values l

pub values_below : (l : List ℕ) → Below 256 l → Below 32 (values l)
unfolding values
values_below [] bs = tt
values_below (a ∷ []) bs = (omega arith, (omega arith, tt))
values_below (a ∷ b ∷ []) bs = let hb : b < 256 = bs.1.0 in (omega arith, (omega arith, (omega arith, (omega arith, tt))))
values_below (a ∷ b ∷ c ∷ []) bs = let hb : b < 256 = bs.1.0 in let hc : c < 256 = bs.1.1.0 in (omega arith, (omega arith, (omega arith, (omega arith, (omega arith, tt)))))
values_below (a ∷ b ∷ c ∷ d ∷ []) bs =
    let hb : b < 256 = bs.1.0 in let hc : c < 256 = bs.1.1.0 in let hd : d < 256 = bs.1.1.1.0 in
    (omega arith, (omega arith, (omega arith, (omega arith, (omega arith, (omega arith, (omega arith, tt)))))))
values_below (a ∷ b ∷ c ∷ d ∷ e ∷ l) bs =
    let hb : b < 256 = bs.1.0 in let hc : c < 256 = bs.1.1.0 in let hd : d < 256 = bs.1.1.1.0 in let he : e < 256 = bs.1.1.1.1.0 in
    (omega arith, (omega arith, (omega arith, (omega arith, (omega arith, (omega arith, (omega arith, (omega arith, values_below l bs.1.1.1.1.1))))))))

pub length_values : (l : List ℕ) → length (values l) ≡ (8 * length l + 4) / 5
unfolding values
length_values [] = refl
length_values (a ∷ []) = refl
length_values (a ∷ b ∷ []) = refl
length_values (a ∷ b ∷ c ∷ []) = refl
length_values (a ∷ b ∷ c ∷ d ∷ []) = refl
length_values (a ∷ b ∷ c ∷ d ∷ e ∷ l) = omega (arith, length_values l)

pub length_bytes : (l : List ℕ) → length (bytes l) ≡ 5 * length l / 8
unfolding bytes
length_bytes [] = refl
length_bytes (a ∷ []) = refl
length_bytes (a ∷ b ∷ []) = refl
length_bytes (a ∷ b ∷ c ∷ []) = refl
length_bytes (a ∷ b ∷ c ∷ d ∷ []) = refl
length_bytes (a ∷ b ∷ c ∷ d ∷ e ∷ []) = refl
length_bytes (a ∷ b ∷ c ∷ d ∷ e ∷ f ∷ []) = refl
length_bytes (a ∷ b ∷ c ∷ d ∷ e ∷ f ∷ g ∷ []) = refl
length_bytes (a ∷ b ∷ c ∷ d ∷ e ∷ f ∷ g ∷ h ∷ l) = omega (arith, length_bytes l)

-- the characters and their values
pub char_value : (c : ℕ) → in_alphabet c ≡ true → (char_of (value_of c) ≡ c) × (value_of c < 32)
char_value c e = by_or (leb 65 c && leb c 90) (leb 50 c && leb c 55) e
    (λ e. by_and (leb 65 c) (leb c 90) e λ a b.
    let g : 65 ≤ c = leb-true 65 c a in
    let h : c ≤ 90 = leb-true c 90 b in
    rw (le-ltb c 65 g, lt-ltb (c - 65) 26 (omega arith)) (omega arith, omega arith))
    (λ e. by_and (leb 50 c) (leb c 55) e λ a b.
    let g : 50 ≤ c = leb-true 50 c a in
    let h : c ≤ 55 = leb-true c 55 b in
    rw (lt-ltb c 65 (omega arith), le-ltb (c - 24) 26 (omega arith)) (omega arith, omega arith))

pub value_char : (v : ℕ) → v < 32 → (value_of (char_of v) ≡ v) × (in_alphabet (char_of v) ≡ true)
value_char v h = go (ltb v 26) refl
  where
    go : (b : Bool) → ltb v 26 ≡ b → (value_of (char_of v) ≡ v) × (in_alphabet (char_of v) ≡ true)
    go true e = let g : v < 26 = ltb-true v 26 e in
        rw (e, le-ltb (v + 65) 65 (omega arith), le-leb 65 (v + 65) (omega arith), le-leb (v + 65) 90 (omega arith)) (omega arith, refl)
    go false e = let g : 26 ≤ v = ltb-false v 26 e in
        rw (e, lt-ltb (v + 24) 65 (omega arith), lt-leb 65 (v + 24) (omega arith), le-leb 50 (v + 24) (omega arith), le-leb (v + 24) 55 (omega arith)) (omega arith, refl)
