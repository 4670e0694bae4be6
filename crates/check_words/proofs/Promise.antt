-- The promise of `check_words` leaves one answer: the answer is an equation, and the check words are the only ones that make the list
-- right, so the list that is left is one.
-- Assumes nothing.
use Prim.Native.Nat.{◌+◌, ◌≤◌, ℕ}
use lib.ListN.{length}
use mathlib.Core.List.{List, ◌++◌}
use mathlib.Core.Path.{◌∙◌, ◌≡◌, ap, refl, sym}
use native.Mathlib.Omega.{arith}
use Rattle.galois.specs.Polynomial.{Bytes}
use Rattle.std.specs.declared.result.Result.{Result}
use Rattle.refusal.proofs.Said.{says_one}
use Rattle.refusal.specs.declared.Refusal.{Refusal}
use Rattle.refusal.specs.Answers.{Answer, good, refused}
use Rattle.refusal.specs.Over.{over}
use Rattle.check_words.proofs.Answers.{fits}
use Rattle.check_words.proofs.Only.{check_only}
use Rattle.check_words.specs.Answers.{Left, Listed, Promised, words_of}
use Rattle.check_words.specs.Sizes.{check_count}

-- with the same check words the list is the same
pub listed_one : (ds old new new' : List ℕ) → length ds + check_count (length ds) ≤ 255 → Bytes ds
    → Listed (check_count (length ds)) ds old new → Listed (check_count (length ds)) ds old new' → new ≡ new'
listed_one ds old new new' few by p q =
    let k : ℕ = check_count (length ds) in
    let same : p.checks ≡ q.checks =
    check_only k ds p.checks few by p.bytes p.number p.right
    ∙ sym (check_only k ds q.checks few by q.bytes q.number q.right) in
    p.list ∙ ap (λ (c : List ℕ). over (ds ++ c) old) same ∙ sym q.list

pub left_one : (x : Answer ℕ) (ds old new new' : List ℕ) → words_of (length ds) (length old) ≡ x → Bytes ds → Left x ds old new → Left x ds old new' → new ≡ new'
left_one (good m) ds old new new' e by p q =
    let f = fits (length ds) (length old) m e in
    listed_one ds old new new' (omega (arith, f)) by p q
left_one (refused k at) ds old new new' e by p q = p ∙ sym q

pub only_one : (ds old new new' : List ℕ) (r r' : Result ℕ Refusal) → Bytes ds → Promised ds old new r → Promised ds old new' r' → (r ≡ r') × (new ≡ new')
only_one ds old new new' r r' by p q =
    (says_one r r' (p.0 ∙ sym q.0), left_one (words_of (length ds) (length old)) ds old new new' refl by p.1 q.1)
