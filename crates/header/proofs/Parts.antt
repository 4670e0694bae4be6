-- A part of a header, from its characters place by place: all in their sets it is read as it stands, and the first that is not is the refusal.
-- Assumes nothing.
use Prim.Native.Nat.{ℕ, zero, suc, ◌+◌, ◌≤◌, ◌<◌}
use mathlib.Core.Bool.{true, false}
use mathlib.Core.List.{List, [], ◌∷◌, map}
use mathlib.Core.Path.{◌≡◌, refl, sym, ap, ◌∙◌}
use native.Mathlib.Omega.{arith}
use lib.ListN.{length, get_or, take, drop}
use Rattle.std.proofs.lemmas.List.{get_or-take, get_or-drop}
use Rattle.refusal.specs.Answers.{good, refused}
use Rattle.refusal.specs.Numbers.{wrong_header_character}
use Rattle.refusal.specs.Chars.{chars_at}
use Rattle.refusal.proofs.Chars.{chars_at_law}
use Rattle.header.specs.declared.Set.{Set}
use Rattle.header.specs.declared.Set.TheVariants.{Upper}
use Rattle.header.specs.Header.{part}
use Rattle.header.specs.inner.Code.{has, Passed}

-- a character of those from the place p on
char_at : (t chars : List ℕ) (p n k : ℕ) → chars ≡ take n (drop p t) → k < n → get_or chars k 0 ≡ get_or t (p + k) 0
char_at t chars p n k e h = ap (λ l. get_or l k 0) e ∙ get_or-take n (drop p t) k 0 h ∙ get_or-drop p t k 0

good_from : (ss : List Set) (p : ℕ) (t : List ℕ) → ((k : ℕ) → k < length ss → has (get_or ss k Upper) (get_or t (p + k) 0) ≡ true) → part (map has ss) p t ≡ good (chars_at (length ss) p t)
unfolding part
good_from [] p t h = refl
good_from (s ∷ ss) p t h =
    let first : has s (get_or t p 0) ≡ true = ap (λ q. has s (get_or t q 0)) (omega arith) ∙ h 0 (omega arith) in
    rw (first, good_from ss (suc p) t (λ k i. ap (λ q. has (get_or ss k Upper) (get_or t q 0)) (omega arith) ∙ h (suc k) (omega arith)))

bad_from : (ss : List Set) (p w : ℕ) (t : List ℕ) → w < length ss → ((k : ℕ) → k < w → has (get_or ss k Upper) (get_or t (p + k) 0) ≡ true) → has (get_or ss w Upper) (get_or t (p + w) 0) ≡ false
    → part (map has ss) p t ≡ refused wrong_header_character (p + w)
unfolding part
bad_from [] p w t h ok bad = absurd (omega arith)
bad_from (s ∷ ss) p zero t h ok bad =
    let first : has s (get_or t p 0) ≡ false = ap (λ q. has s (get_or t q 0)) (omega arith) ∙ bad in
    rw first (ap (refused wrong_header_character) (omega arith))
bad_from (s ∷ ss) p (suc w) t h ok bad =
    let first : has s (get_or t p 0) ≡ true = ap (λ q. has s (get_or t q 0)) (omega arith) ∙ ok 0 (omega arith) in
    let e : suc p + w ≡ p + suc w = omega arith in
    rw (first, bad_from ss (suc p) w t (omega arith) (λ k i. ap (λ q. has (get_or ss k Upper) (get_or t q 0)) (omega arith) ∙ ok (suc k) (omega arith)) (ap (λ q. has (get_or ss w Upper) (get_or t q 0)) (omega arith) ∙ bad)) (ap (refused wrong_header_character) e)

pub part_good : (sets : List Set) (t chars : List ℕ) (p n : ℕ) → length sets ≡ n → p + n ≤ length t → chars ≡ take n (drop p t) → Passed sets chars n → good chars ≡ part (map has sets) p t
part_good sets t chars p n m h e ok =
    ap good (e ∙ chars_at_law n p t h ∙ ap (λ k. chars_at k p t) (sym m))
    ∙ sym (good_from sets p t (λ k i. ap (has (get_or sets k Upper)) (sym (char_at t chars p n k e (omega arith))) ∙ ok k (omega arith)))

pub part_bad : (sets : List Set) (t chars : List ℕ) (p n w : ℕ) → length sets ≡ n → chars ≡ take n (drop p t) → w < n → Passed sets chars w → has (get_or sets w Upper) (get_or chars w 0) ≡ false
    → refused wrong_header_character (p + w) ≡ part (map has sets) p t
part_bad sets t chars p n w m e h ok bad =
    sym (bad_from sets p w t (omega arith) (λ k i. ap (has (get_or sets k Upper)) (sym (char_at t chars p n k e (omega arith))) ∙ ok k i) (ap (has (get_or sets w Upper)) (sym (char_at t chars p n w e h)) ∙ bad))
