-- Records that stand side by side, with their starts: those of the bytes are those of a list of scans, and the other way round.
-- By induction on their number. Assumes nothing.
use Prim.Native.Nat.{ℕ, zero, suc, ◌+◌, ◌*◌, ◌≤◌}
use mathlib.Core.Bool.{Bool, true, ◌&&◌}
use mathlib.Core.List.{List, [], ◌∷◌, ◌++◌}
use mathlib.Core.Path.{◌≡◌, refl, sym, ap, ◌∙◌}
use native.Mathlib.Omega.{arith}
use lib.Dec.{leb, eqb}
use lib.ListN.{length, get_or, take, drop, length-append, length-drop, take-append-drop}
use lib.Seq.{length-take-le, take-add, drop_at, take_at}
use borrow.Author.Tests.{leb-true, eqb-true, le-leb, eq-eqb}
use Rattle.refusal.proofs.Binds.{by_and}
use Rattle.day_file.specs.File.{Scan, four, record_of, need, body, starts, states}
use Rattle.day_file.specs.Opening.{two_at, four_at, size_at, scan_at, scans, standing}
use Rattle.day_file.proofs.Bytes.{Bytes, bytes_drop, four_back, two_back, four_is, two_digits}

none_of : (l : List ℕ) → length l ≡ 0 → [] ≡ l
none_of [] e = refl
none_of (x ∷ l) e = absurd (omega arith)

-- the record at the front
pub need_is : (l : List ℕ) → 3 ≤ length l → size_at l ≤ length l → need (scan_at l) ≡ size_at l
need_is l h s = ap (λ n. 3 + n) (length-take-le (two_at l 1) (drop 3 l) (simp length-drop (omega arith)))

pub record_is : (l : List ℕ) → Bytes l → 3 ≤ length l → size_at l ≤ length l → record_of (scan_at l) ≡ take (size_at l) l
record_is [] y h s = absurd (omega arith)
record_is (a ∷ []) y h s = absurd (omega arith)
record_is (a ∷ b ∷ []) y h s = absurd (omega arith)
record_is (a ∷ b ∷ c ∷ m) y h s =
    let n : length (take (256 * b + c) m) ≡ 256 * b + c = length-take-le (256 * b + c) m (omega arith) in
    let d = two_digits b c (y 2) in
    let e : 3 + (256 * b + c) ≡ suc (suc (suc (256 * b + c))) = omega arith in
    rw (n, d.0, d.1, e)

pub record_then : (l : List ℕ) → Bytes l → 3 ≤ length l → size_at l ≤ length l → record_of (scan_at l) ++ drop (size_at l) l ≡ l
record_then l y h s = ap (λ m. m ++ drop (size_at l) l) (record_is l y h s) ∙ take-append-drop (size_at l) l

-- what stands is what the scans say
pub record Stands (k at : ℕ) (l t : List ℕ) : Type 0 where
  pub bodies : body (scans k l) ≡ l
  pub begins : take (4 * k) t ≡ starts at (scans k l)
  pub small : states (scans k l) ≡ true

pub stands : (k at : ℕ) (l t : List ℕ) → Bytes l → Bytes t → 4 * k ≤ length t → standing k at l t ≡ true → Stands k at l t
unfolding standing scans body starts states
stands zero at l t y z h e = record { bodies = none_of l (eqb-true (length l) 0 e); begins = refl; small = refl }
stands (suc k) at l t y z h e =
    by_and (leb 3 (length l)) _ e λ e3 e.
    by_and (leb (get_or l 0 0) 1) _ e λ e1 e.
    by_and (leb (size_at l) (length l)) _ e λ es e.
    by_and (eqb (four_at t 0) at) _ e λ ef e.
    let h3 : 3 ≤ length l = leb-true 3 (length l) e3 in
    let hs : size_at l ≤ length l = leb-true (size_at l) (length l) es in
    let hf : four_at t 0 ≡ at = eqb-true (four_at t 0) at ef in
    let i = stands k (at + size_at l) (drop (size_at l) l) (drop 4 t) (bytes_drop (size_at l) l y) (bytes_drop 4 t z) (simp length-drop (omega arith)) e in
    record {
      bodies = ap (λ m. record_of (scan_at l) ++ m) i.bodies ∙ record_then l y h3 hs;
      begins =
          (let q : 4 * suc k ≡ 4 + 4 * k = omega arith in
          ap (λ n. take n t) q ∙ take-add 4 (4 * k) t
          ∙ ap (λ m. m ++ take (4 * k) (drop 4 t)) (sym (four_is t (omega arith) z) ∙ ap four hf)
          ∙ ap (λ m. four at ++ m) (i.begins ∙ ap (λ n. starts (at + n) (scans k (drop (size_at l) l))) (sym (need_is l h3 hs))));
      small = rw e1 i.small;
    }

pub length_scans : (k : ℕ) (l : List ℕ) → length (scans k l) ≡ k
unfolding scans
length_scans zero l = refl
length_scans (suc k) l = ap suc (length_scans k (drop (size_at l) l))

-- the other way round
module _ (r : Scan) (m : List ℕ) where
  pub size_of : size_at (record_of r ++ m) ≡ need r
  size_of = omega (arith, two_back (length r.text) r.state (r.text ++ m))

  pub length_of : length (record_of r ++ m) ≡ need r + length m
  length_of = simp length-append (omega arith)

  pub rest_of : drop (need r) (record_of r ++ m) ≡ m
  rest_of = drop_at (record_of r) m (need r) (omega arith)

  pub scan_of : scan_at (record_of r ++ m) ≡ r
  scan_of = λ i. record { state = r.state; text = text_of i }
    where
      text_of : take (two_at (record_of r ++ m) 1) (r.text ++ m) ≡ r.text
      text_of = ap (λ n. take n (r.text ++ m)) (two_back (length r.text) r.state (r.text ++ m)) ∙ take_at r.text m (length r.text) refl

pub scans_of : (rs : List Scan) → scans (length rs) (body rs) ≡ rs
unfolding scans body
scans_of [] = refl
scans_of (r ∷ rs) =
    let e : drop (size_at (record_of r ++ body rs)) (record_of r ++ body rs) ≡ body rs = ap (λ n. drop n (record_of r ++ body rs)) (size_of r (body rs)) ∙ rest_of r (body rs) in
    ap (λ x. x ∷ scans (length rs) (drop (size_at (record_of r ++ body rs)) (record_of r ++ body rs))) (scan_of r (body rs))
    ∙ ap (λ l. r ∷ scans (length rs) l) e
    ∙ ap (λ l. r ∷ l) (scans_of rs)

both : (a b : Bool) → a ≡ true → b ≡ true → (a && b) ≡ true
both a b e f = rw (e, f)

pub standing_of : (rs : List Scan) (at : ℕ) (rest : List ℕ) → states rs ≡ true → standing (length rs) at (body rs) (starts at rs ++ rest) ≡ true
unfolding standing body starts states
standing_of [] at rest h = refl
standing_of (r ∷ rs) at rest h =
    by_and (leb r.state 1) _ h λ h1 h.
    let l : List ℕ = record_of r ++ body rs in
    let n : size_at l ≡ need r = size_of r (body rs) in
    let e : drop (size_at l) l ≡ body rs = ap (λ n. drop n l) n ∙ rest_of r (body rs) in
    let t : drop 4 (four at ++ starts (at + need r) rs ++ rest) ≡ starts (at + need r) rs ++ rest = refl in
    both _ _ (le-leb 3 (length l) (omega (arith, length_of r (body rs))))
    (both _ _ h1
    (both _ _ (le-leb (size_at l) (length l) (omega (arith, length_of r (body rs), n)))
    (both _ _ (eq-eqb (four_at (four at ++ (starts (at + need r) rs ++ rest)) 0) at (four_back at (starts (at + need r) rs ++ rest)))
    (ap (λ z. standing (length rs) (at + z) (drop (size_at l) l) (starts (at + need r) rs ++ rest)) n
    ∙ ap (λ z. standing (length rs) (at + need r) z (starts (at + need r) rs ++ rest)) e
    ∙ standing_of rs (at + need r) rest h))))
