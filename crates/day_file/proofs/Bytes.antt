-- Numbers in two bytes and in four, both ways, and bytes of a part.
-- Assumes nothing.
use Prim.Native.Nat.{ℕ, ◌+◌, ◌*◌, ◌/◌, ◌%◌, ◌≤◌, ◌<◌}
use mathlib.Core.Bool.{Bool, true, false}
use mathlib.Core.List.{List, [], ◌∷◌, ◌++◌}
use mathlib.Core.Path.{◌≡◌, refl}
use native.Mathlib.Omega.{arith}
use lib.Dec.{ltb}
use lib.ListN.{length, get_or, take, drop, get_or-eq_default, length-take}
use lib.Seq.{get_or-drop, get_or-take}
use borrow.Author.Tests.{ltb-true, ltb-false}
use Rattle.day_file.specs.File.{two, four}
use Rattle.day_file.specs.Opening.{two_at, four_at}

abbrev pub Bytes : List ℕ → Type 0
Bytes l = (i : ℕ) → get_or l i 0 < 256

pub bytes_drop : (n : ℕ) (l : List ℕ) → Bytes l → Bytes (drop n l)
bytes_drop n l h i = rw get_or-drop (h (n + i))

pub bytes_take : (n : ℕ) (l : List ℕ) → Bytes l → Bytes (take n l)
bytes_take n l h i = go (ltb i n) refl
  where
    go : (b : Bool) → ltb i n ≡ b → get_or (take n l) i 0 < 256
    go true e = let k : i < n = ltb-true i n e in rw (get_or-take n l i 0 k) (h i)
    go false e =
        let k : n ≤ i = ltb-false i n e in
        let j : length (take n l) ≤ i = simp length-take (omega arith) in
        rw (get_or-eq_default (take n l) 0 {n = i} j) (omega arith)

-- a number, from its bytes
pub four_back : (n : ℕ) (l : List ℕ) → four_at (four n ++ l) 0 ≡ n
four_back n l = omega arith

pub two_back : (n a : ℕ) (l : List ℕ) → two_at (a ∷ (two n ++ l)) 1 ≡ n
two_back n a l = omega arith

-- the bytes, from their number
four_digits : (a b c d n : ℕ) → b < 256 → c < 256 → d < 256 → n ≡ 16777216 * a + 65536 * b + 256 * c + d
    → (n / 16777216 ≡ a) × (n / 65536 % 256 ≡ b) × (n / 256 % 256 ≡ c) × (n % 256 ≡ d)
four_digits a b c d n hb hc hd e = (omega arith, omega arith, omega arith, omega arith)

pub four_is : (l : List ℕ) → 4 ≤ length l → Bytes l → four (four_at l 0) ≡ take 4 l
four_is [] h y = absurd (omega arith)
four_is (a ∷ []) h y = absurd (omega arith)
four_is (a ∷ b ∷ []) h y = absurd (omega arith)
four_is (a ∷ b ∷ c ∷ []) h y = absurd (omega arith)
four_is (a ∷ b ∷ c ∷ d ∷ l) h y =
    let e = four_digits a b c d (four_at (a ∷ b ∷ c ∷ d ∷ l) 0) (y 1) (y 2) (y 3) refl in rw (e.0, e.1, e.2, e.3)

pub two_digits : (b c : ℕ) → c < 256 → ((256 * b + c) / 256 ≡ b) × ((256 * b + c) % 256 ≡ c)
two_digits b c h = (omega arith, omega arith)
