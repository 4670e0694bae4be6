-- The data of one field: what was read, with its separator, is what stands at the front of the zone, and it may be written. By
-- induction on the characters, with one case for each thing that a character does.
-- Assumes nothing.
use Prim.Native.Nat.{ℕ, suc, ◌+◌, ◌≤◌}
use mathlib.Core.Bool.{true, false, ◌&&◌}
use mathlib.Core.List.{List, [], ◌∷◌, ◌++◌, append_assoc, append-nil}
use mathlib.Core.Path.{◌≡◌, refl, ap, sym, ◌∙◌}
use native.Mathlib.Omega.{arith}
use lib.Dec.{eqb}
use lib.ListN.{length, length-append}
use borrow.Author.Tests.{leb-true, le-leb, eqb-true, eqb-false}
use Rattle.refusal.specs.Answers.{good}
use Rattle.refusal.proofs.Tests.{by_test}
use Rattle.refusal.proofs.Binds.{never, same_good}
use Rattle.std.specs.declared.option.Option.{Option}
use Rattle.std.specs.Prelude.{Some, None}
use Rattle.dictionary.specs.Dictionary.{is_greatest, allowed, fixed, full}
use Rattle.dictionary.specs.declared.Row.{Row}
use Rattle.text.specs.declared.Does.{Does}
use Rattle.text.specs.declared.Does.TheVariants.{More, Ends, Cuts, Follows, Wrong}
use Rattle.text.specs.Zone.{does, Piece, on_does, read_data}
use Rattle.text.specs.Text.{within, in_turn, ending}

-- what each case of a character tells
pub does_more : (r : Row) (chars : List ℕ) (c : ℕ) → does r chars c ≡ More → (full r chars ≡ false) × (allowed r chars c ≡ true)
unfolding does
does_more r chars c e =
    by_test (full r chars) _ _ _ e
    (λ t q. by_test (fixed r) _ _ _ q (λ _ q. (cc, cc)) λ _ q. by_test (eqb c 30) _ _ _ q (λ _ q. (cc, cc)) λ _ q. (cc, cc))
    λ t q. by_test (fixed r) _ _ _ q
    (λ _ q. by_test (allowed r chars c) _ _ _ q (λ a q. (t, a)) λ _ q. (cc, cc))
    λ _ q. by_test (eqb c 29) _ _ _ q (λ _ q. (cc, cc))
    λ _ q. by_test (eqb c 30) _ _ _ q (λ _ q. (cc, cc))
    λ _ q. by_test (allowed r chars c) _ _ _ q (λ a q. (t, a)) λ _ q. (cc, cc)

pub does_ends : (r : Row) (chars : List ℕ) (c : ℕ) → does r chars c ≡ Ends → (full r chars ≡ false) × (c ≡ 29)
unfolding does
does_ends r chars c e =
    by_test (full r chars) _ _ _ e
    (λ t q. by_test (fixed r) _ _ _ q (λ _ q. (cc, cc)) λ _ q. by_test (eqb c 30) _ _ _ q (λ _ q. (cc, cc)) λ _ q. (cc, cc))
    λ t q. by_test (fixed r) _ _ _ q
    (λ _ q. by_test (allowed r chars c) _ _ _ q (λ a q. (cc, cc)) λ _ q. (cc, cc))
    λ _ q. by_test (eqb c 29) _ _ _ q (λ b q. (t, eqb-true c 29 b))
    λ _ q. by_test (eqb c 30) _ _ _ q (λ _ q. (cc, cc))
    λ _ q. by_test (allowed r chars c) _ _ _ q (λ a q. (cc, cc)) λ _ q. (cc, cc)

pub does_cuts : (r : Row) (chars : List ℕ) (c : ℕ) → does r chars c ≡ Cuts → (fixed r ≡ false) × (c ≡ 30)
unfolding does
does_cuts r chars c e =
    by_test (full r chars) _ _ _ e
    (λ t q. by_test (fixed r) _ _ _ q (λ _ q. (cc, cc)) λ f q. by_test (eqb c 30) _ _ _ q (λ b q. (f, eqb-true c 30 b)) λ _ q. (cc, cc))
    λ t q. by_test (fixed r) _ _ _ q
    (λ _ q. by_test (allowed r chars c) _ _ _ q (λ a q. (cc, cc)) λ _ q. (cc, cc))
    λ f q. by_test (eqb c 29) _ _ _ q (λ _ q. (cc, cc))
    λ _ q. by_test (eqb c 30) _ _ _ q (λ b q. (f, eqb-true c 30 b))
    λ _ q. by_test (allowed r chars c) _ _ _ q (λ a q. (cc, cc)) λ _ q. (cc, cc)

pub does_follows : (r : Row) (chars : List ℕ) (c : ℕ) → does r chars c ≡ Follows → full r chars ≡ true
unfolding does
does_follows r chars c e =
    by_test (full r chars) _ _ _ e (λ t q. t)
    λ t q. by_test (fixed r) _ _ _ q
    (λ _ q. by_test (allowed r chars c) _ _ _ q (λ a q. cc) λ _ q. cc)
    λ f q. by_test (eqb c 29) _ _ _ q (λ _ q. cc)
    λ _ q. by_test (eqb c 30) _ _ _ q (λ b q. cc)
    λ _ q. by_test (allowed r chars c) _ _ _ q (λ a q. cc) λ _ q. cc

-- one more character stays within the limit, where it was not reached
pub within_more : (m : Option ℕ) (n : ℕ) → within m n ≡ true → is_greatest m n ≡ false → within m (suc n) ≡ true
within_more (Some k) n w f =
    let a : n ≤ k = leb-true n k w in
    let b : n ≡ k → ⊥ = eqb-false n k f in
    le-leb (suc n) k (omega arith)
within_more None n w f = refl

pub within_nil : (m : Option ℕ) → within m 0 ≡ true
within_nil (Some k) = le-leb 0 k (omega arith)
within_nil None = refl

-- THE DATA READ, with what ends them, stand at the front, and may be written
pub record Stands (r : Row) (chars : List ℕ) (p : ℕ) (l : List ℕ) (x : Piece) : Type 0 where
  pub new : List ℕ
  pub is : x.chars ≡ chars ++ new
  pub there : l ≡ new ++ (ending r x.chars x.cut ++ x.rest)
  pub next : x.next ≡ p + (length new + length (ending r x.chars x.cut))
  pub turn : in_turn r chars new ≡ true
  pub limit : within r.greatest (length x.chars) ≡ true
  pub mark : (x.cut && fixed r) ≡ false

at_end : (r : Row) (at : ℕ) (chars : List ℕ) (p : ℕ) (x : Piece) → within r.greatest (length chars) ≡ true → read_data r at chars p [] ≡ good x → Stands r chars p [] x
unfolding read_data in_turn
at_end r at chars p x w e = by_test (full r chars) _ _ _ e (λ t q. here t (same_good q)) λ t q. never q
  where
    here : full r chars ≡ true → record { chars = chars; cut = false; next = p; rest = [] } ≡ x → Stands r chars p [] x
    here t q = rw (← q) (record { new = []; is = sym (append-nil chars); there = rw t; next = rw t (omega arith); turn = refl; limit = w; mark = refl })

pub stands : (r : Row) (at : ℕ) (l : List ℕ) (chars : List ℕ) (p : ℕ) (x : Piece) → within r.greatest (length chars) ≡ true → read_data r at chars p l ≡ good x → Stands r chars p l x
unfolding read_data in_turn
stands r at [] chars p x w e = at_end r at chars p x w e
stands r at (c ∷ l) chars p x w e = go (does r chars c) refl e (stands r at l (chars ++ (c ∷ [])) (suc p) x)
  where
    on_more : (full r chars ≡ false) × (allowed r chars c ≡ true) → Stands r (chars ++ (c ∷ [])) (suc p) l x → Stands r chars p (c ∷ l) x
    on_more h s = record {
      new = c ∷ s.new;
      is = s.is ∙ append_assoc chars (c ∷ []) s.new;
      there = ap (λ m. c ∷ m) s.there;
      next = omega (arith, s.next);
      turn = rw h.1 s.turn;
      limit = s.limit;
      mark = s.mark;
    }

    longer : full r chars ≡ false → within r.greatest (length (chars ++ (c ∷ []))) ≡ true
    longer f =
        let q : length (chars ++ (c ∷ [])) ≡ suc (length chars) = omega (arith, length-append chars (c ∷ [])) in
        rw q (within_more r.greatest (length chars) w f)

    on_ends : (full r chars ≡ false) × (c ≡ 29) → record { chars = chars; cut = false; next = suc p; rest = l } ≡ x → Stands r chars p (c ∷ l) x
    on_ends h q = rw (← q) (record { new = []; is = sym (append-nil chars); there = rw (h.0, h.1); next = rw h.0 (omega arith); turn = refl; limit = w; mark = refl })

    on_cuts : (fixed r ≡ false) × (c ≡ 30) → record { chars = chars; cut = true; next = suc p; rest = l } ≡ x → Stands r chars p (c ∷ l) x
    on_cuts h q = rw (← q) (record { new = []; is = sym (append-nil chars); there = rw h.1; next = omega arith; turn = refl; limit = w; mark = h.0 })

    on_follows : full r chars ≡ true → record { chars = chars; cut = false; next = p; rest = c ∷ l } ≡ x → Stands r chars p (c ∷ l) x
    on_follows h q = rw (← q) (record { new = []; is = sym (append-nil chars); there = rw h; next = rw h (omega arith); turn = refl; limit = w; mark = refl })

    go : (y : Does) → does r chars c ≡ y → on_does y chars c p l (read_data r at (chars ++ (c ∷ [])) (suc p) l) ≡ good x
        → (within r.greatest (length (chars ++ (c ∷ []))) ≡ true → read_data r at (chars ++ (c ∷ [])) (suc p) l ≡ good x → Stands r (chars ++ (c ∷ [])) (suc p) l x)
        → Stands r chars p (c ∷ l) x
    go More q e ih = let h = does_more r chars c q in on_more h (ih (longer h.0) e)
    go Ends q e ih = on_ends (does_ends r chars c q) (same_good e)
    go Cuts q e ih = on_cuts (does_cuts r chars c q) (same_good e)
    go Follows q e ih = on_follows (does_follows r chars c q) (same_good e)
    go Wrong q e ih = never e
