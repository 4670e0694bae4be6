-- Pieces put one behind the other, and the names and lines that they make.
-- Assumes nothing.
use Prim.Native.Nat.{ℕ, suc, ◌+◌, ◌-◌, ◌*◌, ◌≤◌, ◌<◌}
use mathlib.Core.Bool.{Bool, true, false}
use mathlib.Core.List.{List, [], ◌∷◌, ◌++◌, append_assoc, append-nil}
use mathlib.Core.Path.{◌≡◌, refl, sym, ap, ◌∙◌}
use native.Mathlib.Omega.{arith}
use native.Mathlib.Numerals.{add-one}
use lib.Dec.{ltb, eqb}
use lib.ListN.{length, get_or, take, drop, length-append, take-append-drop}
use lib.Seq.{take-suc, length-take-le}
use borrow.Author.Tests.{lt-ltb}
use Rattle.refusal.specs.Pick.{pick}
use Rattle.refusal.specs.Over.{over}
use Rattle.day_file.specs.Pieces.{put_at}
use Rattle.day_file.proofs.Putting.{put_put, put_over}
use Rattle.lines.specs.Lines.{decimal, type_name, other_name, refused_word, refused_name, name_of, line_of, lines_of}
use Rattle.lines.proofs.Decimal.{number_most}

-- a piece behind one that ends at q
pub next_put : (l : List ℕ) (p : ℕ) (us vs g h : List ℕ) (q : ℕ) → g ≡ put_at l p us → q ≡ p + length us → h ≡ put_at g q vs → p + length (us ++ vs) ≤ length l → h ≡ put_at l p (us ++ vs)
next_put l p us vs g h q e n w room = w ∙ ap (λ x. put_at x q vs) e ∙ put_put l p us vs q (sym n) (omega (arith, length-append us vs))

-- a count above zero has a line
pub a_line : (i n : ℕ) → 1 ≤ n → line_of i n ≡ name_of i ++ (decimal n ++ (10 ∷ []))
a_line i n h = ap (λ b. pick b (name_of i ++ (decimal n ++ (10 ∷ []))) []) (lt-ltb 0 n (omega arith))

-- how long they are at most
pick_most : (b : Bool) (x y : List ℕ) (k : ℕ) → length x ≤ k → length y ≤ k → length (pick b x y) ≤ k
pick_most true x y k h g = h
pick_most false x y k h g = g

refused_most : (i : ℕ) → i < 262 → length (refused_name (i - 6)) ≤ 12
refused_most i h = omega (arith, number_most 3 (i - 6) (32 ∷ []) (omega arith) (omega arith) (omega arith))

name_most : (i : ℕ) → i < 262 → length (name_of i) ≤ 12
unfolding name_of
name_most i h =
    pick_most (eqb i 0) (type_name 48 48) _ 12 (omega arith)
    (pick_most (eqb i 1) (type_name 48 49) _ 12 (omega arith)
    (pick_most (eqb i 2) (type_name 48 50) _ 12 (omega arith)
    (pick_most (eqb i 3) (type_name 66 48) _ 12 (omega arith)
    (pick_most (eqb i 4) (type_name 66 49) _ 12 (omega arith)
    (pick_most (eqb i 5) other_name (refused_name (i - 6)) 12 (omega arith) (refused_most i h))))))

line_most : (i n : ℕ) → i < 262 → n < 4294967296 → length (line_of i n) ≤ 23
line_most i n h g =
    pick_most (ltb 0 n) (name_of i ++ (decimal n ++ (10 ∷ []))) [] 23
    (omega (arith, length-append (name_of i) (decimal n ++ (10 ∷ [])), name_most i h, number_most 10 n (10 ∷ []) (omega arith) (omega arith) (omega arith))) (omega arith)

abbrev pub Words : List ℕ → Type 0
Words l = (j : ℕ) → get_or l j 0 < 4294967296

lines_most : (i : ℕ) (l : List ℕ) → Words l → i + length l ≤ 262 → length (lines_of i l) ≤ 23 * length l
unfolding lines_of
lines_most i [] y h = omega arith
lines_most i (n ∷ l) y h =
    omega (arith, length-append (line_of i n) (lines_of (suc i) l), line_most i n (omega arith) (y 0), lines_most (suc i) l (λ j. y (suc j)) (omega arith))

-- line by line
lines_append : (i : ℕ) (xs ys : List ℕ) → lines_of i (xs ++ ys) ≡ lines_of i xs ++ lines_of (i + length xs) ys
unfolding lines_of
lines_append i [] ys = let e : i + 0 ≡ i = omega arith in sym (ap (λ n. lines_of n ys) e)
lines_append i (x ∷ xs) ys =
    let e : suc i + length xs ≡ i + suc (length xs) = omega arith in
    ap (λ l. line_of i x ++ l) (lines_append (suc i) xs ys ∙ ap (λ n. lines_of (suc i) xs ++ lines_of n ys) e)
    ∙ sym (append_assoc (line_of i x) (lines_of (suc i) xs) (lines_of (i + suc (length xs)) ys))

one_line : (i n : ℕ) → lines_of i (n ∷ []) ≡ line_of i n ++ []
unfolding lines_of
one_line i n = refl

module _ (l : List ℕ) (i : ℕ) (h : i < length l) where
  pub lines_more : lines_of 0 (take (i + 1) l) ≡ lines_of 0 (take i l) ++ line_of i (get_or l i 0)
  lines_more =
      let n : 0 + length (take i l) ≡ i = omega (arith, length-take-le i l (omega arith)) in
      ap (λ k. lines_of 0 (take k l)) (add-one i) ∙ ap (lines_of 0) (take-suc l i 0 h) ∙ lines_append 0 (take i l) (get_or l i 0 ∷ [])
      ∙ ap (λ k. lines_of 0 (take i l) ++ lines_of k (get_or l i 0 ∷ [])) n ∙ ap (λ m. lines_of 0 (take i l) ++ m) (one_line i (get_or l i 0) ∙ append-nil (line_of i (get_or l i 0)))

pub lines_room : (l : List ℕ) (k : ℕ) → Words l → length l ≤ 262 → length (lines_of 0 (take k l)) ≤ 6026
lines_room l k y h =
    omega (
      arith,
      lines_most 0 l y (omega arith),
      ap (λ m. length (lines_of 0 m)) (sym (take-append-drop k l)) ∙ ap length (lines_append 0 (take k l) (drop k l))
          ∙ length-append (lines_of 0 (take k l)) (lines_of (0 + length (take k l)) (drop k l)),
    )

-- from the start of a slice, a piece stands over what was there
pub over_put : (l vs : List ℕ) → put_at l 0 vs ≡ over vs l
over_put l vs = put_over l 0 [] vs refl (omega arith)

-- the numbers of the line of a refused file
pub file_most : (p k : ℕ) → p < 18446744073709551616 → k < 256 → (length (decimal p ++ (32 ∷ refused_word)) ≤ 29) × (length (decimal k ++ (10 ∷ [])) ≤ 4)
file_most p k h g = (number_most 20 p (32 ∷ refused_word) (omega arith) (omega arith) h, number_most 3 k (10 ∷ []) (omega arith) (omega arith) (omega arith))
