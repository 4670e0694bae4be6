-- The mark 31: what stands before it and behind it, by its place. By induction on the characters.
-- Assumes nothing.
use Prim.Native.Nat.{ℕ, zero, suc, ◌+◌, ◌-◌, ◌≤◌, ◌<◌}
use mathlib.Core.Bool.{Bool, true, false}
use mathlib.Core.List.{List, [], ◌∷◌}
use mathlib.Core.Path.{◌≡◌, refl, sym, ap, ◌∙◌}
use native.Mathlib.Omega.{arith}
use lib.Dec.{eqb, ltb}
use lib.ListN.{length, get_or, take, drop, length-drop}
use lib.Seq.{slice, drop-drop}
use borrow.Author.Tests.{ltb-false}
use Rattle.std.specs.Prelude.{◌==◌, Option, Some, None, position}
use Rattle.std.specs.List.{position_or_len}
use Rattle.std.proofs.lemmas.List.Quantifiers.{position-Some}
use Rattle.std.proofs.lemmas.List.Sums.{fails_before_first}
use Rattle.std.proofs.lemmas.Slice.{between_is}
use Rattle.refusal.specs.Answers.{good, refused}
use Rattle.refusal.specs.Numbers.{no_mark}
use Rattle.refusal.proofs.Over.{tail_is}
use Rattle.text.specs.Text.{at_mark}
use Rattle.text.specs.inner.Code.{zone_end_says}

-- where there is no first that passes, none does
pub none_passes : (test : ℕ → Bool) (l : List ℕ) → position test l ≡ None → (k : ℕ) → k < length l → test (get_or l k 0) ≡ false
none_passes test l e k h = go (ltb (position_or_len test l) (length l)) refl e
  where
    go : (b : Bool) → ltb (position_or_len test l) (length l) ≡ b → position test l ≡ None → test (get_or l k 0) ≡ false
    go true q e = let z : ◌≡◌ {A = Option ℕ} (Some (position_or_len test l)) None = rw q at e in absurd (cc)
    go false q e = fails_before_first test l k 0 (omega (arith, ltb-false (position_or_len test l) (length l) q))

here : (l : List ℕ) (i p : ℕ) → i < length l → eqb (get_or l i 0) 31 ≡ true → ((k : ℕ) → k < i → eqb (get_or l k 0) 31 ≡ false) → at_mark p l ≡ good (record { before = take i l; behind = drop (suc i) l })
unfolding at_mark
here [] i p h e f = absurd (omega arith)
here (c ∷ l) zero p h e f = rw e
here (c ∷ l) (suc i) p h e f = rw (f 0 (omega arith), here l i (suc p) (omega arith) e (λ k j. f (suc k) (omega arith)))

nowhere : (l : List ℕ) (p : ℕ) → ((k : ℕ) → k < length l → eqb (get_or l k 0) 31 ≡ false) → at_mark p l ≡ refused no_mark (p + length l)
unfolding at_mark
nowhere [] p f = let e : p ≡ p + 0 = omega arith in ap (refused no_mark) e
nowhere (c ∷ l) p f =
    let e : suc p + length l ≡ p + suc (length l) = omega arith in
    rw (f 0 (omega arith), nowhere l (suc p) (λ k j. f (suc k) (omega arith))) (ap (refused no_mark) e)

-- looked for in a text from the place `from` on
module _ (t : List ℕ) (from : ℕ) (h : from ≤ length t) where
  pub mark_found : (i : ℕ) → Some i ≡ position (λ c. c == 31) (take (length t - from) (drop from t)) → zone_end_says (Some (from + i)) from t ≡ at_mark from (drop from t)
  mark_found i e =
      let q = position-Some (λ c. c == 31) (drop from t) i 0 (sym (e ∙ ap (position (λ c. c == 31)) (tail_is t from))) in
      let n : from + i - from ≡ i = omega arith in
      let before : slice from (from + i) t ≡ take i (drop from t) = sym (between_is t from (from + i)) ∙ ap (λ k. take k (drop from t)) n in
      let m : from + suc i ≡ suc (from + i) = omega arith in
      let behind : drop (suc (from + i)) t ≡ drop (suc i) (drop from t) = ap (λ k. drop k t) (sym m) ∙ sym (drop-drop (suc i) from t) in
      (λ j. good (record { before = before j; behind = behind j })) ∙ sym (here (drop from t) i from q.0 q.1 q.2)

  pub mark_missing : None ≡ position (λ c. c == 31) (take (length t - from) (drop from t)) → zone_end_says None from t ≡ at_mark from (drop from t)
  mark_missing e =
      let n : length t ≡ from + length (drop from t) = omega (arith, length-drop from t) in
      ap (refused no_mark) n ∙ sym (nowhere (drop from t) from (none_passes (λ c. c == 31) (drop from t) (sym (e ∙ ap (position (λ c. c == 31)) (tail_is t from)))))
