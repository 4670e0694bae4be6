-- The parts of writing a symbol put together: the characters, the cleared work slice, the symbol with its pads, and the refusals in order.
-- Assumes nothing.
use Rattle.std.specs.Prelude.{cond, position, Some, None}
use Rattle.std.specs.List.{position_or_len}
use Rattle.std.proofs.lemmas.List.Recursion.{is_position_or_len}
use mathlib.Core.Bool.{Bool, true, false}
use mathlib.Core.List.{List, [], ◌∷◌, ◌++◌}
use mathlib.Core.Path.{◌≡◌, refl, ap, sym, ◌∙◌}
use Prim.Native.Nat.{ℕ, zero, suc, ◌+◌, ◌-◌, ◌≤◌, ◌<◌}
use native.Mathlib.Omega.{arith}
use lib.Dec.{ltb}
use lib.ListN.{length, take, drop, get_or, length-append, get_or-eq_default}
use lib.Seq.{drop_at, take_at}
use borrow.Author.Tests.{lt-ltb, le-ltb, ltb-true, ltb-false}
use Rattle.refusal.specs.Pick.{pick}
use Rattle.refusal.specs.Numbers.{lent_too_short, character_above_127}
use Rattle.refusal.specs.Limits.{limit}
use Rattle.codeword.specs.Sizes.{capacities, is_capacity}
use Rattle.codeword.specs.Reading.{in_ascii}
use Rattle.optimum.specs.Write.{Choice, at, nothing, write, choose, padding, symbol_of}
use Rattle.symbol_writer.specs.Rows.{work_room}
use Rattle.symbol_writer.specs.Moves.{Chars}
use Rattle.symbol_writer.specs.Codewords.{Put}
use Rattle.symbol_writer.specs.Symbol.{written, refused, cleared, first_above, with_pads, in_size, write_symbol, zeros, work_after}
use Rattle.symbol_writer.proofs.Rows.{drop_on}

-- THE CHARACTERS
above_is : (t : List ℕ) → first_above t ≡ position_or_len (λ c. ltb 127 c) t
unfolding first_above
above_is = is_position_or_len first_above (λ c. ltb 127 c) refl (λ c t. one c t (ltb 127 c) refl)
  where
    one : (c : ℕ) (t : List ℕ) (x : Bool) → ltb 127 c ≡ x → first_above (c ∷ t) ≡ cond (ltb 127 c) 0 (1 + first_above t)
    one c t true e = rw e
    one c t false e = rw e (omega arith)

-- where a character above 127 is found, and where none is
pub above_found : (t : List ℕ) (i : ℕ) → position (λ c. ltb 127 c) t ≡ Some i → (first_above t ≡ i) × (i < length t)
above_found t i e = go (ltb (position_or_len (λ c. ltb 127 c) t) (length t)) refl e
  where
    go : (x : Bool) → ltb (position_or_len (λ c. ltb 127 c) t) (length t) ≡ x → cond x (Some (position_or_len (λ c. ltb 127 c) t)) None ≡ Some i → (first_above t ≡ i) × (i < length t)
    go true q f =
        let same : position_or_len (λ c. ltb 127 c) t ≡ i = cc in
        (above_is t ∙ same, omega (arith, same, ltb-true (position_or_len (λ c. ltb 127 c) t) (length t) q))
    go false q f = absurd (cc)

pub above_none : (t : List ℕ) → position (λ c. ltb 127 c) t ≡ None → length t ≤ first_above t
above_none t e = go (ltb (position_or_len (λ c. ltb 127 c) t) (length t)) refl e
  where
    go : (x : Bool) → ltb (position_or_len (λ c. ltb 127 c) t) (length t) ≡ x → cond x (Some (position_or_len (λ c. ltb 127 c) t)) None ≡ None → length t ≤ first_above t
    go true q f = absurd (cc)
    go false q f = omega (arith, above_is t, ltb-false (position_or_len (λ c. ltb 127 c) t) (length t) q)

pub chars_of : (t : List ℕ) → length t ≤ first_above t → Chars t
unfolding first_above
chars_of [] h k = omega (arith, get_or-eq_default {A = ℕ} [] 0 {n = k} (omega arith))
chars_of (c ∷ t) h k = go (ltb 127 c) refl h (λ l. chars_of t l) k
  where
    go : (x : Bool) → ltb 127 c ≡ x → suc (length t) ≤ pick x 0 (suc (first_above t)) → (length t ≤ first_above t → Chars t) → (k : ℕ) → get_or (c ∷ t) k 0 < 128
    go true e g i k = absurd (omega arith)
    go false e g i zero = omega (arith, ltb-false 127 c e)
    go false e g i (suc k) = i (omega arith) k

-- THE SYMBOL
length_padding : (first i n : ℕ) → length (padding first i n) ≡ n
length_padding first i zero = refl
length_padding first i (suc n) = ap suc (length_padding first (suc i) n)

module _ (ws : List ℕ) (n capacity : ℕ) (old mid : List ℕ) (done : ℕ) (P : Put ws n old mid done) (fits : n ≤ capacity) (room : capacity ≤ length old) where
  pub symbol_put : (new : List ℕ) → new ≡ (take done mid ++ padding done done (capacity - done)) ++ drop capacity mid → (new ≡ with_pads capacity ws ++ drop capacity old) × (length (with_pads capacity ws) ≡ capacity)
  symbol_put new e = (
    e ∙ rw (front, behind, P.count),
    length-append ws (padding (length ws) (length ws) (capacity - length ws)) ∙ omega (arith, length_padding (length ws) (length ws) (capacity - length ws), P.count, P.few),
  )
    where
      front : take done mid ≡ ws
      front = ap (take done) P.is ∙ take_at ws (drop done old) done (sym P.count)

      behind : drop capacity mid ≡ drop capacity old
      behind =
          drop_on done capacity mid (omega (arith, P.few)) ∙ ap (drop (capacity - done)) (ap (drop done) P.is ∙ drop_at ws (drop done old) done (sym P.count))
          ∙ sym (drop_on done capacity old (omega (arith, P.few)))

-- where the codewords are as many as were asked for, the symbol is the one of the choice
pub symbol_is : (c n : ℕ) (b : Bool) (t : List ℕ) → length (write b n in_ascii t) ≡ n → with_pads c (write b n in_ascii t) ≡ symbol_of (at c n b) t
symbol_is c n b t e = rw e

-- IN ORDER
module _ (t : List ℕ) (largest work room : ℕ) (short : length t ≤ limit) where
  pub too_high : first_above t < length t → write_symbol t largest work room ≡ refused character_above_127 (first_above t)
  unfolding write_symbol
  too_high h = rw (le-ltb limit (length t) short, lt-ltb (first_above t) (length t) h)

  pub in_size_law : length t ≤ first_above t → is_capacity largest ≡ true → work_room ≤ work → write_symbol t largest work room ≡ in_size room t (choose capacities largest t)
  unfolding write_symbol
  in_size_law low size h = rw (le-ltb limit (length t) short, le-ltb (first_above t) (length t) low, size, le-ltb work work_room h)

-- whatever comes of the size, the work slice is cleared
pub work_cleared : (room : ℕ) (t : List ℕ) (x : Choice) (old : List ℕ) → work_after (in_size room t x) old ≡ zeros work_room ++ drop work_room old
work_cleared room t nothing old = refl
work_cleared room t (at c n b) old = go (ltb room c)
  where
    go : (y : Bool) → work_after (pick y (cleared lent_too_short 0) (written c (length (write b n in_ascii t)) (with_pads c (write b n in_ascii t)))) old ≡ zeros work_room ++ drop work_room old
    go true = refl
    go false = refl
