-- Pieces put one behind the other into a lent slice.
-- Assumes nothing.
use Prim.Native.Nat.{ℕ, ◌+◌, ◌-◌, ◌≤◌}
use mathlib.Core.List.{List, [], ◌∷◌, ◌++◌, append_assoc, append-nil}
use mathlib.Core.Path.{◌≡◌, refl, sym, ap, ◌∙◌}
use native.Mathlib.Omega.{arith}
use lib.ListN.{length, set, take, drop, length-append, length-drop, take-append-drop}
use lib.Seq.{length-take-le, drop_at, take_at, drop-drop, sets-eq}
use borrow.Rule.Slice.PartMut.{put_mid}
use Rattle.refusal.specs.Over.{over}
use Rattle.day_file.specs.Pieces.{put_at}

module _ (l : List ℕ) (p : ℕ) where
  pub length_put : (vs : List ℕ) → p + length vs ≤ length l → length (put_at l p vs) ≡ length l
  length_put vs h =
      length-append (take p l ++ vs) (drop (p + length vs) l)
      ∙ omega (arith, length-append (take p l) vs, length-take-le p l (omega arith), length-drop (p + length vs) l)

  pub head_put : (vs : List ℕ) → p + length vs ≤ length l → length (take p l ++ vs) ≡ p + length vs
  head_put vs h = length-append (take p l) vs ∙ omega (arith, length-take-le p l (omega arith))

  pub take_put : (vs : List ℕ) → p ≤ length l → take p (put_at l p vs) ≡ take p l
  take_put vs h = ap (take p) (append_assoc (take p l) vs (drop (p + length vs) l)) ∙ take_at (take p l) (vs ++ drop (p + length vs) l) p (length-take-le p l h)

  pub put_none : put_at l p [] ≡ l
  put_none =
      let e : p + 0 ≡ p = omega arith in
      ap (λ n. take p l ++ [] ++ drop n l) e ∙ ap (λ m. m ++ drop p l) (append-nil (take p l)) ∙ take-append-drop p l

  -- one piece behind another
  pub put_put : (us vs : List ℕ) (q : ℕ) → p + length us ≡ q → q ≤ length l → put_at (put_at l p us) q vs ≡ put_at l p (us ++ vs)
  put_put us vs q e h =
      let a : length (take p l ++ us) ≡ q = head_put us (omega arith) ∙ e in
      let b : take q (put_at l p us) ≡ take p l ++ us = take_at (take p l ++ us) (drop (p + length us) l) q a in
      let n : p + length us + length vs ≡ p + length (us ++ vs) = omega (arith, length-append us vs) in
      let c : drop (q + length vs) (put_at l p us) ≡ drop (p + length (us ++ vs)) l =
      sym (drop-drop (length vs) q (put_at l p us))
      ∙ ap (drop (length vs)) (drop_at (take p l ++ us) (drop (p + length us) l) q a)
      ∙ drop-drop (length vs) (p + length us) l
      ∙ ap (λ n. drop n l) n in
      ap (λ m. m ++ vs ++ drop (q + length vs) (put_at l p us)) b
      ∙ ap (λ m. take p l ++ us ++ vs ++ m) c
      ∙ ap (λ m. m ++ drop (p + length (us ++ vs)) l) (append_assoc (take p l) us vs)

  -- a piece behind a front that is known
  pub put_over : (front vs : List ℕ) → take p l ≡ front → p ≤ length l → put_at l p vs ≡ over (front ++ vs) l
  put_over front vs e h =
      let n : p + length vs ≡ length (front ++ vs) = omega (arith, length-append front vs, ap length e, length-take-le p l h) in
      ap (λ m. m ++ vs ++ drop (p + length vs) l) e ∙ ap (λ n. front ++ vs ++ drop n l) n

-- behind a piece nothing changes
pub drop_put : (l : List ℕ) (p n : ℕ) (vs : List ℕ) → p + length vs ≤ length l → p + length vs ≤ n → drop n (put_at l p vs) ≡ drop n l
drop_put l p n vs h k =
    let e : n ≡ p + length vs + (n - (p + length vs)) = omega arith in
    ap (λ m. drop m (put_at l p vs)) e
    ∙ sym (drop-drop (n - (p + length vs)) (p + length vs) (put_at l p vs))
    ∙ ap (drop (n - (p + length vs))) (drop_at (take p l ++ vs) (drop (p + length vs) l) (p + length vs) (head_put l p vs h))
    ∙ drop-drop (n - (p + length vs)) (p + length vs) l
    ∙ ap (λ m. drop m l) (sym e)

-- what was copied to a part is a piece
pub part_put : (l vs : List ℕ) (a k : ℕ) → k ≡ length vs → put_mid a k l vs ≡ put_at l a vs
part_put l vs a k e = rw (e, drop-drop) (sym (append_assoc (take a l) vs (drop (a + length vs) l)))

-- a store, a copy of two bytes, and a copy behind them
pub record_put : (l b text : List ℕ) (p a : ℕ) → length b ≡ 2 → p + 3 + length text ≤ length l
    → put_mid (p + 3) (p + 3 + length text - (p + 3)) (put_mid (p + 1) (p + 3 - (p + 1)) (set l p a) b) text ≡ put_at l p (a ∷ b ++ text)
record_put l b text p a n h =
    let one : set l p a ≡ put_at l p (a ∷ []) = sets-eq (a ∷ []) l p (omega arith) in
    part_put (put_mid (p + 1) (p + 3 - (p + 1)) (set l p a) b) text (p + 3) (p + 3 + length text - (p + 3)) (omega arith)
    ∙ ap (λ m. put_at m (p + 3) text)
    (part_put (set l p a) b (p + 1) (p + 3 - (p + 1)) (omega (arith, n)) ∙ ap (λ m. put_at m (p + 1) b) one ∙ put_put l p (a ∷ []) b (p + 1) refl (omega arith))
    ∙ put_put l p (a ∷ b) text (p + 3) (omega (arith, n)) (omega arith)
