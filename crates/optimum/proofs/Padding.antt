-- The pads of a symbol: their count, each of them, and that they and the codewords before them are bytes.
-- Assumes nothing.
use Prim.Native.Nat.{ℕ, zero, suc, ◌+◌, ◌-◌, ◌*◌, ◌%◌, ◌<◌}
use mathlib.Core.Bool.{Bool, true, false}
use mathlib.Core.List.{List, [], ◌∷◌, ◌++◌}
use mathlib.Core.Path.{◌≡◌, refl, ap}
use native.Mathlib.Omega.{arith}
use lib.Dec.{ltb, eqb}
use lib.ListN.{length, take, get_or}
use borrow.Author.Tests.{ltb-false, eq-eqb}
use Rattle.refusal.specs.Pick.{pick}
use Rattle.codeword.specs.Pads.{pad_at}
use Rattle.optimum.specs.Write.{padding}
use Rattle.optimum.proofs.Values.{Bytes}
use Rattle.optimum.proofs.Attain.{Rest}

pub bytes_of : (ws : List ℕ) → ((i : ℕ) → get_or ws i 0 < 256) → Bytes ws
bytes_of [] h = tt
bytes_of (w ∷ ws) h = (h 0, bytes_of ws (λ i. h (suc i)))

pub length_padding : (n i k : ℕ) → length (padding n i k) ≡ k
length_padding n i zero = refl
length_padding n i (suc k) = ap suc (length_padding n (suc i) k)

pub pad_at_law : (n i k j : ℕ) → j < k → get_or (padding n i k) j 0 ≡ pad_at n (i + j)
pad_at_law n i zero j h = absurd (omega arith)
pad_at_law n i (suc k) zero h = let e : i + 0 ≡ i = omega arith in rw e
pad_at_law n i (suc k) (suc j) h = let e : i + suc j ≡ suc i + j = omega arith in rw e (pad_at_law n (suc i) k j (omega arith))

pub first_pad : (n : ℕ) → pad_at n n ≡ 129
unfolding pad_at
first_pad n = rw (eq-eqb n n refl)

pub pads_follow : (n k : ℕ) → 0 < k → Rest true (padding n n k)
pads_follow n zero h = absurd (omega arith)
pads_follow n (suc k) h = first_pad n

pub pad_byte : (n i : ℕ) → pad_at n i < 256
unfolding pad_at
pad_byte n i = go (eqb i n) (ltb 254 (129 + (149 * suc i % 253 + 1))) refl
  where
    go :
        (x y : Bool) → ltb 254 (129 + (149 * suc i % 253 + 1)) ≡ y →
        pick x 129 (pick y (129 + (149 * suc i % 253 + 1) - 254) (129 + (149 * suc i % 253 + 1))) < 256
    go true y e = omega arith
    go false true e = omega arith
    go false false e = omega (arith, ltb-false 254 (129 + (149 * suc i % 253 + 1)) e)

pub pad_bytes : (n i k : ℕ) → Bytes (padding n i k)
pad_bytes n i zero = tt
pad_bytes n i (suc k) = (pad_byte n i, pad_bytes n (suc i) k)

pub append_bytes : (vs ws : List ℕ) → Bytes vs → Bytes ws → (i : ℕ) → get_or (vs ++ ws) i 0 < 256
append_bytes [] [] h g i = omega arith
append_bytes [] (w ∷ ws) h g zero = g.0
append_bytes [] (w ∷ ws) h g (suc i) = append_bytes [] ws tt g.1 i
append_bytes (v ∷ vs) ws h g zero = h.0
append_bytes (v ∷ vs) ws h g (suc i) = append_bytes vs ws h.1 g i

pub take_bytes : (n : ℕ) (ws : List ℕ) → Bytes ws → Bytes (take n ws)
take_bytes zero ws h = tt
take_bytes (suc n) [] h = tt
take_bytes (suc n) (w ∷ ws) h = (h.0, take_bytes n ws h.1)
