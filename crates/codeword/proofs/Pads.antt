-- The pads: `first_wrong` is the index of the first wrong pad, and the count of the codewords (or the index of the first pad, if that is
-- more) where none is wrong. And what checking them makes of a reading.
-- Assumes nothing.
use Prim.Native.Nat.{ℕ, suc, ◌+◌, ◌-◌, ◌≤◌, ◌<◌}
use mathlib.Core.Bool.{Bool, true, false}
use mathlib.Core.List.{List, [], ◌∷◌}
use mathlib.Core.Path.{◌≡◌, refl, sym, ap, subst, ◌∙◌}
use native.Mathlib.Omega.{arith}
use lib.Dec.{ltb, eqb}
use lib.ListN.{length, drop, get_or, length-drop}
use lib.Seq.{get_or-drop}
use borrow.Author.Tests.{ltb-true, ltb-false, le-ltb, eqb-true, eqb-false}
use Rattle.refusal.specs.Pick.{pick}
use Rattle.refusal.specs.Numbers.{wrong_pad}
use Rattle.refusal.proofs.Tests.{clash}
use Rattle.codeword.specs.Pads.{pad_at, wrong_from, first_wrong}
use Rattle.codeword.specs.Reading.{Reading, good, refused, checked}

-- THE FIRST WRONG PAD
pub record First (n i : ℕ) (ws : List ℕ) (p : ℕ) : Type 0 where
  pub low : i ≤ p
  pub high : p ≤ i + length ws
  pub right : (j : ℕ) → i ≤ j → j < p → get_or ws (j - i) 0 ≡ pad_at n j
  pub wrong : p < i + length ws → get_or ws (p - i) 0 ≡ pad_at n p → ⊥

first : (n i : ℕ) (ws : List ℕ) → First n i ws (wrong_from n i ws)
unfolding wrong_from
first n i [] = record { low = omega arith; high = omega arith; right = λ j h g. absurd (omega arith); wrong = λ h e. absurd (omega arith) }
first n i (w ∷ ws) = go (eqb w (pad_at n i)) refl (first n (suc i) ws)
  where
    go : (x : Bool) → eqb w (pad_at n i) ≡ x → First n (suc i) ws (wrong_from n (suc i) ws) → First n i (w ∷ ws) (pick x (wrong_from n (suc i) ws) i)
    go false e F =
        record {
          low = omega arith;
          high = omega arith;
          right = λ j h g. absurd (omega arith);
          wrong = λ h f. let z : i - i ≡ 0 = omega arith in eqb-false w (pad_at n i) e (rw z at f);
        }
    go true e F =
        record {
          low = omega (arith, F.low);
          high = omega (arith, F.high);
          right = λ j h g. at j (eqb j i) refl h g;
          wrong = λ h f.
              let z : wrong_from n (suc i) ws - i ≡ suc (wrong_from n (suc i) ws - suc i) = omega (arith, F.low) in
              F.wrong (omega arith) (rw z at f);
        }
      where
        at : (j : ℕ) (x : Bool) → eqb j i ≡ x → i ≤ j → j < wrong_from n (suc i) ws → get_or (w ∷ ws) (j - i) 0 ≡ pad_at n j
        at j true q h g =
            let r : j ≡ i = eqb-true j i q in
            let z : j - i ≡ 0 = omega arith in
            rw z (eqb-true w (pad_at n i) e ∙ ap (pad_at n) (sym r))
        at j false q h g =
            let r : j ≡ i → ⊥ = eqb-false j i q in
            let z : j - i ≡ suc (j - suc i) = omega arith in
            rw z (F.right j (omega arith) g)

pub record FirstWrong (n : ℕ) (ws : List ℕ) (p : ℕ) : Type 0 where
  pub low : n ≤ p
  pub high : n ≤ length ws → p ≤ length ws
  pub right : (i : ℕ) → n ≤ i → i < p → get_or ws i 0 ≡ pad_at n i
  pub wrong : p < length ws → get_or ws p 0 ≡ pad_at n p → ⊥

-- what the definition means: each pad before it is right, and itself is wrong
pub first_wrong_law : (n : ℕ) (ws : List ℕ) → FirstWrong n ws (first_wrong n ws)
unfolding first_wrong
first_wrong_law n ws = go (first n n (drop n ws))
  where
    go : First n n (drop n ws) (wrong_from n n (drop n ws)) → FirstWrong n ws (wrong_from n n (drop n ws))
    go F =
        record {
          low = F.low;
          high = λ h. omega (arith, F.high, length-drop n ws);
          right = λ i h g. let z : n + (i - n) ≡ i = omega arith in subst (λ k. get_or ws k 0 ≡ pad_at n i) z (sym (get_or-drop n ws (i - n) 0) ∙ F.right i h g);
          wrong = λ h f.
              let z : wrong_from n n (drop n ws) ≡ n + (wrong_from n n (drop n ws) - n) = omega (arith, F.low) in
              F.wrong (omega (arith, length-drop n ws, F.low))
              (get_or-drop n ws (wrong_from n n (drop n ws) - n) 0 ∙ ap (λ k. get_or ws k 0) (sym z) ∙ f);
        }

pub all_right : (n : ℕ) (ws : List ℕ) → ((i : ℕ) → n ≤ i → i < length ws → get_or ws i 0 ≡ pad_at n i) → length ws ≤ first_wrong n ws
all_right n ws h = go (first_wrong_law n ws) (ltb (first_wrong n ws) (length ws)) refl
  where
    go : FirstWrong n ws (first_wrong n ws) → (x : Bool) → ltb (first_wrong n ws) (length ws) ≡ x → length ws ≤ first_wrong n ws
    go F true e = absurd (F.wrong (ltb-true _ _ e) (h (first_wrong n ws) F.low (ltb-true _ _ e)))
    go F false e = ltb-false _ _ e

-- CHECKING THEM
pub from_checked :
    (ws : List ℕ) (o : Reading) (t : List ℕ) (n : ℕ) (b : Bool) → checked ws o ≡ good t n b → (o ≡ good t n b) × (length ws ≤ first_wrong n ws)
from_checked ws (refused k p) t n b e = clash cc
from_checked ws (good t' n' b') t n b e = go (ltb (first_wrong n' ws) (length ws)) refl e
  where
    go :
        (x : Bool) → ltb (first_wrong n' ws) (length ws) ≡ x → pick x (refused wrong_pad (first_wrong n' ws)) (good t' n' b') ≡ good t n b →
        (good t' n' b' ≡ good t n b) × (length ws ≤ first_wrong n ws)
    go true q e = clash cc
    go false q e = let r : n' ≡ n = cc in (e, subst (λ k. length ws ≤ first_wrong k ws) r (ltb-false _ _ q))

pub right_checked : (ws : List ℕ) {o : Reading} {t : List ℕ} {n : ℕ} {b : Bool} → o ≡ good t n b → length ws ≤ first_wrong n ws → checked ws o ≡ good t n b
right_checked ws {n = n} e h = ap (checked ws) e ∙ simp (le-ltb (first_wrong n ws) (length ws) h)
