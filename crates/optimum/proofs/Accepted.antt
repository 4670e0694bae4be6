-- An accepted reading, taken apart: what its rest gives, where a character, codewords, a leftover shift or three values stand in
-- front. A reading is looked at with just the room that its text takes, so the rest has just the room that its own text takes.
-- Assumes nothing.
use Prim.Native.Nat.{ℕ, suc}
use mathlib.Core.Bool.{Bool, true, false}
use mathlib.Core.List.{List, [], ◌∷◌}
use mathlib.Core.Path.{◌≡◌, refl, ap, ◌∙◌}
use lib.ListN.{length}
use Rattle.refusal.specs.Pick.{pick}
use Rattle.refusal.proofs.Tests.{clash}
use Rattle.codeword.specs.declared.Set.{Set}
use Rattle.codeword.specs.declared.Set.TheVariants.{Basic}
use Rattle.codeword.specs.declared.Value.{Value}
use Rattle.codeword.specs.declared.Value.TheVariants.{Char, Shift, Unused}
use Rattle.codeword.specs.Meanings.{value, unfinished}
use Rattle.codeword.specs.Reading.{Reading, good, refused, cons, tick, Step, refuse, behind, give, put, finish}

pub data Front (c : ℕ) (o : Step) (t : List ℕ) (n : ℕ) (b : Bool) : Type 0 where
  front : (t' : List ℕ) → t ≡ c ∷ t' → o (length t') ≡ good t' n b → Front c o t n b

pub from_give : (c : ℕ) (o : Step) (t : List ℕ) (n : ℕ) (b : Bool) → give c o (length t) ≡ good t n b → Front c o t n b
from_give c o [] n b e = clash cc
from_give c o (x ∷ t) n b e = go (o (length t)) refl e
  where
    go : (y : Reading) → o (length t) ≡ y → cons c y ≡ good (x ∷ t) n b → Front c o (x ∷ t) n b
    go (refused k p) q e = clash cc
    go (good t' n' b') q e = front t (cc) (cc)

pub data Ticked (o : Reading) (t : List ℕ) (n : ℕ) (b : Bool) : Type 0 where
  ticked : (n' : ℕ) → n ≡ suc n' → o ≡ good t n' b → Ticked o t n b

pub from_tick : (o : Reading) (t : List ℕ) (n : ℕ) (b : Bool) → tick o ≡ good t n b → Ticked o t n b
from_tick (refused k p) t n b e = clash cc
from_tick (good t' n' b') t n b e = ticked n' (cc) (cc)

pub from_finish :
    (s : Set) (o : Step) (r : ℕ) (t : List ℕ) (n : ℕ) (b : Bool) → finish s o r ≡ good t n b →
    (unfinished s ≡ false) × (o r ≡ good t n b)
from_finish s o r t n b e = go (unfinished s) refl e
  where
    go : (x : Bool) → unfinished s ≡ x → pick x (refuse 4) o r ≡ good t n b → (unfinished s ≡ false) × (o r ≡ good t n b)
    go true q e = clash cc
    go false q e = (q, e)

-- the values of a pair, one after the other, and the steps behind the first of them
abbrev pub one_value : (z : ℕ) (k : Set → Step) → Set → Step
one_value z k s = put (value s z) k

abbrev pub two_values : (y z : ℕ) (k : Set → Step) → Set → Step
two_values y z k s = put (value s y) (one_value z k)

abbrev pub three_values : (x y z : ℕ) (k : Set → Step) → Set → Step
three_values x y z k s = put (value s x) (two_values y z k)

abbrev pub behind_two : (Set → Step) → Set → Step
behind_two k s = behind (behind (k s))

-- the three values stand in front of what is read behind the pair
pub data Twice (o : Step) (t : List ℕ) (n : ℕ) (b : Bool) : Type 0 where
  twice : (n' : ℕ) → n ≡ suc (suc n') → o (length t) ≡ good t n' b → Twice o t n b

from_behind : (o : Step) (t : List ℕ) (n : ℕ) (b : Bool) → tick (tick (o (length t))) ≡ good t n b → Twice o t n b
from_behind o t n b e = go (from_tick (tick (o (length t))) t n b e)
  where
    go₂ : (n₁ : ℕ) → n ≡ suc n₁ → Ticked (o (length t)) t n₁ b → Twice o t n b
    go₂ n₁ q (ticked n₂ p r) = twice n₂ (q ∙ ap suc p) r

    go : Ticked (tick (o (length t))) t n b → Twice o t n b
    go (ticked n₁ p q) = go₂ n₁ p (from_tick (o (length t)) t n₁ b q)

put_twice :
    (v : Value) (k k' : Set → Step) →
    ((s : Set) (t : List ℕ) (n : ℕ) (b : Bool) → k s (length t) ≡ good t n b → Twice (k' s) t n b) →
    (t : List ℕ) (n : ℕ) (b : Bool) → put v k (length t) ≡ good t n b → Twice (put v k') t n b
put_twice (Char c) k k' h t n b e = go (from_give c (k Basic) t n b e)
  where
    go₂ : (t' : List ℕ) → t ≡ c ∷ t' → Twice (k' Basic) t' n b → Twice (give c (k' Basic)) t n b
    go₂ t' p (twice n' q r) = rw p (twice n' q (ap (cons c) r))

    go : Front c (k Basic) t n b → Twice (give c (k' Basic)) t n b
    go (front t' p q) = go₂ t' p (h Basic t' n b q)
put_twice (Shift s) k k' h t n b e = h s t n b e
put_twice Unused k k' h t n b e = clash cc

pub from_values :
    (s : Set) (x y z : ℕ) (k : Set → Step) (t : List ℕ) (n : ℕ) (b : Bool) →
    three_values x y z (behind_two k) s (length t) ≡ good t n b → Twice (three_values x y z k s) t n b
from_values s x y z k =
    put_twice (value s x) (two_values y z (behind_two k)) (two_values y z k) λ s₁.
    put_twice (value s₁ y) (one_value z (behind_two k)) (one_value z k) λ s₂.
    put_twice (value s₂ z) (behind_two k) k λ s₃.
    from_behind (k s₃)
