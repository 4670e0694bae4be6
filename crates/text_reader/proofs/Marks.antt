-- Where the mark 31 stands: behind the header that was read, and within the text. By induction on the characters up to the mark.
-- Assumes nothing.
use Prim.Native.Nat.{ℕ, suc, ◌+◌, ◌≤◌, ◌<◌}
use mathlib.Core.Bool.{Bool, true, false, ◌&&◌}
use mathlib.Core.List.{List, [], ◌∷◌}
use mathlib.Core.Path.{◌≡◌, refl, ap, subst}
use native.Mathlib.Omega.{arith}
use lib.Dec.{leb, eqb}
use lib.ListN.{length, take, drop, get_or, length-drop}
use lib.Seq.{slice, length-slice, take_all}
use borrow.Author.Tests.{leb-true, leb-false}
use Rattle.refusal.specs.Pick.{pick}
use Rattle.refusal.specs.Answers.{Answer, good, refused}
use Rattle.refusal.specs.Numbers.{header_too_short, not_dc}
use Rattle.refusal.proofs.Binds.{never, same_good, by_bind, by_check}
use Rattle.header.specs.Header.{Headed, size, version_of, parts, known, read_header}
use Rattle.text.specs.Text.{Halves, further, at_mark}

-- a header that was read stands within the text
pub header_long : (t : List ℕ) (x : Headed) → read_header t ≡ good x → size x.version ≤ length t
unfolding read_header known
header_long t x e =
    by_check (leb 22 (length t)) header_too_short (length t) _ e λ _ e.
    by_check (eqb (get_or t 0 0) 68 && eqb (get_or t 1 0) 67) not_dc 0 _ e λ _ e.
    by_bind (version_of (get_or t 2 0) (get_or t 3 0)) _ e λ v _ e.
    by_check (leb (size v) (length t)) header_too_short (length t) _ e λ b e.
    by_bind (parts v t) _ e λ h _ e.
    subst (λ (y : Headed). size y.version ≤ length t) (same_good e) (leb-true (size v) (length t) b)

-- the mark parts the characters in two
pub mark_long : (p : ℕ) (l : List ℕ) (h : Halves) → at_mark p l ≡ good h → length l ≡ suc (length h.before + length h.behind)
unfolding at_mark
mark_long p [] h e = never e
mark_long p (c ∷ l) h e = go (eqb c 31) (at_mark (suc p) l) (mark_long (suc p) l) refl e
  where
    go : (b : Bool) (x : Answer Halves) → ((y : Halves) → at_mark (suc p) l ≡ good y → length l ≡ suc (length y.before + length y.behind)) → at_mark (suc p) l ≡ x
        → pick b (good (record { before = []; behind = l })) (further c x) ≡ good h → suc (length l) ≡ suc (length h.before + length h.behind)
    go true x more q e =
        let w : suc (length l) ≡ suc (0 + length l) = omega arith in
        subst (λ (y : Halves). suc (length l) ≡ suc (length y.before + length y.behind)) (same_good e) w
    go false (good y) more q e =
        let w : suc (length l) ≡ suc (suc (length y.before) + length y.behind) = omega (arith, more y q) in
        subst (λ (u : Halves). suc (length l) ≡ suc (length u.before + length u.behind)) (same_good e) w
    go false (refused k r) more q e = never e

-- so a mark that was found from n on stands between n and the end
pub mark_within : (n k : ℕ) (t : List ℕ) → n ≤ length t → at_mark n (drop n t) ≡ good (record { before = slice n k t; behind = drop (suc k) t }) → (n ≤ k) × (k < length t)
mark_within n k t h e = go (leb k (length t)) refl
  where
    long : length (drop n t) ≡ suc (length (slice n k t) + length (drop (suc k) t))
    long = mark_long n (drop n t) (record { before = slice n k t; behind = drop (suc k) t }) e

    go : (b : Bool) → leb k (length t) ≡ b → (n ≤ k) × (k < length t)
    go true q = omega (arith, long, length-drop n t, length-drop (suc k) t, length-slice n k t (leb-true k (length t) q))
    go false q =
        let f : length t < k = leb-false k (length t) q in
        let g : take k t ≡ t = take_all k t (omega arith) in
        let u : length (slice n k t) ≡ length (drop n t) = ap (λ (l : List ℕ). length (drop n l)) g in
        absurd (omega (arith, long, u))
