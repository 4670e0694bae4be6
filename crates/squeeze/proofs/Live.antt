-- Live records of lists one behind the other, and of a list with one more.
-- Assumes nothing.
use Prim.Native.Nat.{ℕ, suc, ◌+◌, ◌≤◌, ◌<◌}
use mathlib.Core.Bool.{Bool, true, false}
use mathlib.Core.List.{List, [], ◌∷◌, ◌++◌, append-nil}
use mathlib.Core.Path.{◌≡◌, refl, sym, ap, ◌∙◌}
use native.Mathlib.Omega.{arith}
use native.Mathlib.Nat.{add-zero}
use lib.ListN.{length, set, take, drop, length-append, take-append-drop}
use lib.Seq.{length-take-le}
use borrow.Author.Tests.{eq-eqb, ne_eqb}
use Rattle.refusal.specs.Pick.{pick}
use Rattle.day_file.specs.File.{Scan}
use Rattle.day_file.specs.Plain.{numbered}
use Rattle.day_file.proofs.Places.{one_more}
use Rattle.refusal.specs.Over.{over}
use Rattle.squeeze.specs.Squeeze.{is_live, live_ones, old_numbers}
use Rattle.squeeze.proofs.Sizes.{old_count}
use Rattle.squeeze.proofs.Lists.{over_one}

pub live_append : (xs ys : List Scan) → live_ones (xs ++ ys) ≡ live_ones xs ++ live_ones ys
unfolding live_ones
live_append [] ys = refl
live_append (x ∷ xs) ys = go (is_live x) (live_append xs ys)
  where
    go : (b : Bool) → live_ones (xs ++ ys) ≡ live_ones xs ++ live_ones ys → pick b (x ∷ live_ones (xs ++ ys)) (live_ones (xs ++ ys)) ≡ pick b (x ∷ live_ones xs) (live_ones xs) ++ live_ones ys
    go true e = ap (λ l. x ∷ l) e
    go false e = e

pub old_append : (i : ℕ) (xs ys : List Scan) → old_numbers i (xs ++ ys) ≡ old_numbers i xs ++ old_numbers (i + length xs) ys
unfolding old_numbers
old_append i [] ys = ap (λ n. old_numbers n ys) (sym (add-zero i))
old_append i (x ∷ xs) ys =
    let n : suc i + length xs ≡ i + suc (length xs) = omega arith in
    go (is_live x) (old_append (suc i) xs ys ∙ ap (λ m. old_numbers (suc i) xs ++ old_numbers m ys) n)
  where
    go : (b : Bool) → old_numbers (suc i) (xs ++ ys) ≡ old_numbers (suc i) xs ++ old_numbers (i + suc (length xs)) ys
        → pick b (i ∷ old_numbers (suc i) (xs ++ ys)) (old_numbers (suc i) (xs ++ ys)) ≡ pick b (i ∷ old_numbers (suc i) xs) (old_numbers (suc i) xs) ++ old_numbers (i + suc (length xs)) ys
    go true e = ap (λ l. i ∷ l) e
    go false e = e

live_one : (r : Scan) → live_ones (r ∷ []) ≡ pick (is_live r) (r ∷ []) []
unfolding live_ones
live_one r = refl

old_one : (i : ℕ) (r : Scan) → old_numbers i (r ∷ []) ≡ pick (is_live r) (i ∷ []) []
unfolding old_numbers
old_one i r = refl

pub no_live : live_ones [] ≡ []
unfolding live_ones
no_live = refl

pub no_old : old_numbers 0 [] ≡ []
unfolding old_numbers
no_old = refl

pub live_least_count : (xs : List Scan) → length (live_ones xs) ≤ length xs
unfolding live_ones
live_least_count [] = omega arith
live_least_count (x ∷ xs) = go (is_live x) (live_least_count xs)
  where
    go : (b : Bool) → length (live_ones xs) ≤ length xs → length (pick b (x ∷ live_ones xs) (live_ones xs)) ≤ suc (length xs)
    go true e = omega arith
    go false e = omega arith

-- no more old numbers at the front than in all
pub old_front : (i k : ℕ) (xs : List Scan) → length (old_numbers i (take k xs)) ≤ length (old_numbers i xs)
old_front i k xs =
    omega (arith, ap (λ l. length (old_numbers i l)) (sym (take-append-drop k xs)) ∙ ap length (old_append i (take k xs) (drop k xs)) ∙ length-append (old_numbers i (take k xs)) (old_numbers (i + length (take k xs)) (drop k xs)))

-- one record more
module _ (rs : List Scan) (i : ℕ) (h : i < length rs) where
  abbrev r : Scan
  r = numbered rs i

  live_more : live_ones (take (i + 1) rs) ≡ live_ones (take i rs) ++ pick (is_live r) (r ∷ []) []
  live_more = ap live_ones (one_more rs i h) ∙ live_append (take i rs) (r ∷ []) ∙ ap (λ l. live_ones (take i rs) ++ l) (live_one r)

  old_more : old_numbers 0 (take (i + 1) rs) ≡ old_numbers 0 (take i rs) ++ pick (is_live r) (i ∷ []) []
  old_more =
      let n : 0 + length (take i rs) ≡ i = omega (arith, length-take-le i rs (omega arith)) in
      ap (old_numbers 0) (one_more rs i h) ∙ old_append 0 (take i rs) (r ∷ []) ∙ ap (λ m. old_numbers 0 (take i rs) ++ old_numbers m (r ∷ [])) n
      ∙ ap (λ l. old_numbers 0 (take i rs) ++ l) (old_one i r)

  -- a live one
  module _ (live : r.state ≡ 1) where
    pub live_in : live_ones (take (i + 1) rs) ≡ live_ones (take i rs) ++ (r ∷ [])
    live_in = live_more ∙ ap (λ b. live_ones (take i rs) ++ pick b (r ∷ []) []) (eq-eqb r.state 1 live)

    pub count_in : length (live_ones (take (i + 1) rs)) ≡ length (live_ones (take i rs)) + 1
    count_in = ap length live_in ∙ length-append (live_ones (take i rs)) (r ∷ [])

    old_in : old_numbers 0 (take (i + 1) rs) ≡ old_numbers 0 (take i rs) ++ (i ∷ [])
    old_in = old_more ∙ ap (λ b. old_numbers 0 (take i rs) ++ pick b (i ∷ []) []) (eq-eqb r.state 1 live)

    length_in : length (old_numbers 0 (take (i + 1) rs)) ≡ length (old_numbers 0 (take i rs)) + 1
    length_in = ap length old_in ∙ length-append (old_numbers 0 (take i rs)) (i ∷ [])

    module _ (l₀ : List ℕ) (room : length (live_ones rs) ≤ length l₀) (j : ℕ) (l : List ℕ) (now : (j ≡ length (old_numbers 0 (take i rs))) × (l ≡ over (old_numbers 0 (take i rs)) l₀)) where
      pub number_fits : j < length l₀
      number_fits = omega (arith, now.0, room, length_in, old_front 0 (i + 1) rs, old_count 0 rs)

      pub number_put : (j + 1 ≡ length (old_numbers 0 (take (i + 1) rs))) × (set l j i ≡ over (old_numbers 0 (take (i + 1) rs)) l₀)
      number_put = (
        omega (arith, now.0, length_in),
        ap (λ m. set m j i) now.1 ∙ over_one (old_numbers 0 (take i rs)) l₀ j i now.0 number_fits ∙ ap (λ m. over m l₀) (sym old_in),
      )

  -- a withdrawn one
  module _ (gone : r.state ≡ 1 → ⊥) where
    pub live_out : live_ones (take (i + 1) rs) ≡ live_ones (take i rs)
    live_out = live_more ∙ ap (λ b. live_ones (take i rs) ++ pick b (r ∷ []) []) (ne_eqb r.state 1 gone) ∙ append-nil (live_ones (take i rs))

    pub old_out : old_numbers 0 (take (i + 1) rs) ≡ old_numbers 0 (take i rs)
    old_out = old_more ∙ ap (λ b. old_numbers 0 (take i rs) ++ pick b (i ∷ []) []) (ne_eqb r.state 1 gone) ∙ append-nil (old_numbers 0 (take i rs))
