-- One more entry of a list that is written to the front of another, and the numbers from 0 on.
-- Assumes nothing.
use Prim.Native.Nat.{ℕ, zero, suc, ◌+◌, ◌≤◌, ◌<◌}
use mathlib.Core.List.{List, [], ◌∷◌, ◌++◌, append-nil}
use mathlib.Core.Path.{◌≡◌, refl, sym, ap, ◌∙◌}
use native.Mathlib.Omega.{arith}
use native.Mathlib.Numerals.{add-one}
use lib.ListN.{length, get_or, set, take, drop, length-append, drop_of_length-le}
use lib.Seq.{drop-cons, set_at, append_snoc, length-take-le}
use Rattle.refusal.specs.Over.{over}
use Rattle.squeeze.specs.Squeeze.{up_from}

pub over_one : (vs l : List ℕ) (q a : ℕ) → q ≡ length vs → q < length l → set (over vs l) q a ≡ over (vs ++ (a ∷ [])) l
over_one vs l q a e h =
    let n : suc q ≡ length (vs ++ (a ∷ [])) = omega (arith, length-append vs (a ∷ [])) in
    ap (λ m. set (vs ++ drop m l) q a) (sym e)
    ∙ ap (λ m. set (vs ++ m) q a) (drop-cons l q 0 h)
    ∙ set_at vs (get_or l q 0) (drop (suc q) l) a q (sym e)
    ∙ sym (append_snoc vs a (drop (suc q) l))
    ∙ ap (λ m. vs ++ (a ∷ []) ++ drop m l) n

pub length_up : (i n : ℕ) → length (up_from i n) ≡ n
unfolding up_from
length_up i zero = refl
length_up i (suc n) = ap suc (length_up (suc i) n)

up_suc : (i n : ℕ) → up_from i (suc n) ≡ up_from i n ++ ((i + n) ∷ [])
unfolding up_from
up_suc i zero = let e : i ≡ i + 0 = omega arith in ap (λ k. k ∷ []) e
up_suc i (suc n) =
    let e : suc i + n ≡ i + suc n = omega arith in
    ap (λ l. i ∷ l) (up_suc (suc i) n ∙ ap (λ k. up_from (suc i) n ++ (k ∷ [])) e)

pub up_more : (n : ℕ) → up_from 0 n ++ (n ∷ []) ≡ up_from 0 (n + 1)
up_more n =
    let e : n ≡ 0 + n = omega arith in
    ap (λ k. up_from 0 n ++ (k ∷ [])) e ∙ sym (ap (up_from 0) (add-one n) ∙ up_suc 0 n)

pub up_none : up_from 0 0 ≡ []
unfolding up_from
up_none = refl

-- a list that fills the part up to n
pub front_over : (n i : ℕ) (l : List ℕ) → n ≤ length l → length (take n l) ≤ i → i ≤ length (take n l) → over (up_from 0 i) (take n l) ++ drop n l ≡ over (up_from 0 n) l
front_over n i l h a b =
    let m : length (take n l) ≡ n = length-take-le n l h in
    let e : i ≡ n = omega arith in
    let none : drop (length (up_from 0 n)) (take n l) ≡ [] = drop_of_length-le (take n l) {i = length (up_from 0 n)} (omega (arith, m, length_up 0 n)) in
    ap (λ j. over (up_from 0 j) (take n l) ++ drop n l) e ∙ ap (λ k. up_from 0 n ++ k ++ drop n l) none
    ∙ ap (λ k. k ++ drop n l) (append-nil (up_from 0 n)) ∙ ap (λ j. up_from 0 n ++ drop j l) (sym (length_up 0 n))
