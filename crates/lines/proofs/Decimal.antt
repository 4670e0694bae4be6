-- A number's digits: those of the tenth part and one more; so they are what std prints, and so many at most.
-- Assumes nothing.
use Prim.Native.Nat.{ℕ, zero, suc, ◌+◌, ◌/◌, ◌%◌, ◌^◌, ◌≤◌, ◌<◌}
use mathlib.Core.Bool.{Bool, true, false}
use mathlib.Core.List.{List, [], ◌∷◌, ◌++◌}
use mathlib.Core.Path.{◌≡◌, refl, sym, ap, ◌∙◌}
use native.Mathlib.Omega.{arith}
use lib.Dec.{ltb}
use lib.ListN.{length, length-append}
use borrow.Author.Tests.{lt-ltb, le-ltb, ltb-false}
use Rattle.std.proofs.lemmas.Fmt.{decimal_by_steps, length-decimal-le}
use Rattle.std.specs.Fmt as Fmt
use Rattle.refusal.specs.Pick.{pick}
use Rattle.lines.specs.Lines.{decimal_of, decimal}

-- a bound that is large enough does not matter
enough : (j k n : ℕ) → n ≤ j → n ≤ k → decimal_of j n ≡ decimal_of k n
unfolding decimal_of
enough zero zero n h g = refl
enough zero (suc k) n h g = let e : ltb n 10 ≡ true = lt-ltb n 10 (omega arith) in sym (ap (λ b. pick b ((48 + n) ∷ []) (decimal_of k (n / 10) ++ ((48 + n % 10) ∷ []))) e)
enough (suc j) zero n h g = let e : ltb n 10 ≡ true = lt-ltb n 10 (omega arith) in ap (λ b. pick b ((48 + n) ∷ []) (decimal_of j (n / 10) ++ ((48 + n % 10) ∷ []))) e
enough (suc j) (suc k) n h g = go (ltb n 10) refl (λ h' g'. enough j k (n / 10) h' g')
  where
    go : (b : Bool) → ltb n 10 ≡ b → (n / 10 ≤ j → n / 10 ≤ k → decimal_of j (n / 10) ≡ decimal_of k (n / 10))
        → pick b ((48 + n) ∷ []) (decimal_of j (n / 10) ++ ((48 + n % 10) ∷ [])) ≡ pick b ((48 + n) ∷ []) (decimal_of k (n / 10) ++ ((48 + n % 10) ∷ []))
    go true e f = refl
    go false e f = let t : 10 ≤ n = ltb-false n 10 e in ap (λ l. l ++ ((48 + n % 10) ∷ [])) (f (omega arith) (omega arith))

one_digit : (n : ℕ) → n < 10 → decimal n ≡ (48 + n) ∷ []
unfolding decimal_of
one_digit zero h = refl
one_digit (suc m) h = ap (λ b. pick b ((48 + suc m) ∷ []) (decimal_of m (suc m / 10) ++ ((48 + suc m % 10) ∷ []))) (lt-ltb (suc m) 10 h)

more_digits : (n : ℕ) → 10 ≤ n → decimal n ≡ decimal (n / 10) ++ ((48 + n % 10) ∷ [])
unfolding decimal_of
more_digits zero h = absurd (omega arith)
more_digits (suc m) h =
    ap (λ b. pick b ((48 + suc m) ∷ []) (decimal_of m (suc m / 10) ++ ((48 + suc m % 10) ∷ []))) (le-ltb (suc m) 10 h)
    ∙ ap (λ l. l ++ ((48 + suc m % 10) ∷ [])) (enough m (suc m / 10) (suc m / 10) (omega arith) (omega arith))

-- as std prints a number
pub printed : (n : ℕ) → n < 18446744073709551616 → Fmt.decimal n ≡ decimal n
printed n h = decimal_by_steps (λ m ds. ds ≡ decimal m) (λ m k. sym (one_digit m k)) (λ m ds k e. ap (λ l. l ++ ((48 + m % 10) ∷ [])) e ∙ sym (more_digits m k)) n h

-- a number below a power of ten has no more digits than its exponent, here with a word behind them
pub number_most : (k n : ℕ) (ws : List ℕ) → 0 < k → n < 10 ^ k → n < 18446744073709551616 → length (decimal n ++ ws) ≤ k + length ws
number_most k n ws z h g = omega (arith, length-append (decimal n) ws, ap length (printed n g), length-decimal-le k n z h g)
