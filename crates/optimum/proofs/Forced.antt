-- What any pair that reads as the text must be: its first two values are the writer's, and its third is the writer's or smaller.
-- A value is a character of the text or a shift; behind a shift within the pair comes a character of its set; a filler is the
-- smallest value of all, and the writer takes it only where the costs leave nothing else.
-- Assumes nothing.
use Prim.Native.Nat.{ℕ, ◌≤◌, ◌<◌}
use mathlib.Core.Bool.{Bool, true, false}
use mathlib.Core.List.{List, [], ◌∷◌}
use mathlib.Core.Logic.{◌⊎◌, inl, inr}
use mathlib.Core.Path.{◌≡◌, refl, sym, subst}
use native.Mathlib.Omega.{arith}
use lib.ListN.{length}
use borrow.Author.Tests.{le-leb}
use Rattle.refusal.specs.Pick.{pick}
use Rattle.refusal.proofs.Tests.{clash}
use Rattle.codeword.specs.declared.Set.{Set}
use Rattle.codeword.specs.declared.Set.TheVariants.{Basic, Set1, Set2, Set3}
use Rattle.codeword.specs.declared.Value.{Value}
use Rattle.codeword.specs.declared.Value.TheVariants.{Char, Shift, Unused}
use Rattle.codeword.specs.Meanings.{value}
use Rattle.codeword.specs.Reading.{good, Step, put, in_c40}
use Rattle.codeword.specs.Characters.{set_of, number_of}
use Rattle.codeword.proofs.Characters.{number_low}
use Rattle.optimum.specs.Cost.{d0, d1, cost}
use Rattle.optimum.specs.Write
use Rattle.optimum.specs.Write.{odd, fits, val, next, third_in, third}
use Rattle.optimum.proofs.Edge.{Shifted}
use Rattle.optimum.proofs.Values.{Chars, shift_no, char_of, shift_of, basic_number}
use Rattle.optimum.proofs.Accepted.{Front, from_give, front}
use Rattle.optimum.proofs.Lower.{Own, Bound}

-- the text begins with a character of the set
abbrev Heads : Set → List ℕ → Type 0
Heads s [] = ⊥
Heads s (c ∷ t) = set_of c ≡ s

-- a step that any reading takes
pub record Same (x : Write.Step) (v : ℕ) (k : Set → Step) (n : ℕ) (b : Bool) : Type 0 where
  pub s' : Set
  pub t' : List ℕ
  pub is : x ≡ val v s' t'
  pub chars : Chars t'
  pub goes : k s' (length t') ≡ good t' n b

next_char : (s : Set) (c v : ℕ) (t : List ℕ) → set_of c ≡ s → number_of c ≡ v → next s (c ∷ t) ≡ val v Basic t
unfolding next
next_char Basic c v t e q = rw (e, q)
next_char Set1 c v t e q = rw q
next_char Set2 c v t e q = rw q
next_char Set3 c v t e q = rw q

next_shift : (s : Set) (v : ℕ) (t : List ℕ) → Shifted s → Heads s t → shift_no s ≡ v → next Basic t ≡ val v s t
unfolding next
next_shift s v [] h g q = absurd g
next_shift Basic v (c ∷ t) h g q = absurd h
next_shift Set1 v (c ∷ t) h g q = rw (g, ← q)
next_shift Set2 v (c ∷ t) h g q = rw (g, ← q)
next_shift Set3 v (c ∷ t) h g q = rw (g, ← q)

not_basic : (s : Set) → Shifted s → s ≡ Basic → ⊥
not_basic Basic h e = h
not_basic Set1 h e = clash cc
not_basic Set2 h e = clash cc
not_basic Set3 h e = clash cc

module _ (s : Set) (v : ℕ) (low : v < 40) (k : Set → Step) (t : List ℕ) (n : ℕ) (b : Bool)
    (e : put (value s v) k (length t) ≡ good t n b) where
  -- behind a shift comes a character of its set
  pub heads : Shifted s → Heads s t
  heads h = go (value s v) refl e
    where
      chars : (c : ℕ) → value s v ≡ Char c → Front c (k Basic) t n b → Heads s t
      chars c q (front t' p r) = rw p (char_of s v c low q).0

      go : (x : Value) → value s v ≡ x → put x k (length t) ≡ good t n b → Heads s t
      go (Char c) q p = chars c q (from_give c (k Basic) t n b p)
      go (Shift s') q p = absurd (not_basic s h (shift_of s s' v low q).0)
      go Unused q p = clash cc

  -- a value that is not the pair's last is the next one
  pub forced :
      Chars t → ((s' : Set) (t' : List ℕ) → Shifted s' → k s' (length t') ≡ good t' n b → Heads s' t') → Same (next s t) v k n b
  forced hs H = go (value s v) refl e
    where
      chars : (c : ℕ) → value s v ≡ Char c → Front c (k Basic) t n b → Same (next s t) v k n b
      chars c q (front t' p r) =
          let z = char_of s v c low q in
          record { s' = Basic; t' = t'; is = rw p (next_char s c v t' z.0 z.1); chars = (subst Chars p hs).1; goes = r }

      shifts : (s' : Set) → value s v ≡ Shift s' → k s' (length t) ≡ good t n b → Same (next s t) v k n b
      shifts s' q r =
          let z = shift_of s s' v low q in
          record { s' = s'; t' = t; is = rw z.0 (next_shift s' v t z.1 (H s' t z.1 r) z.2); chars = hs; goes = r }

      go : (x : Value) → value s v ≡ x → put x k (length t) ≡ good t n b → Same (next s t) v k n b
      go (Char c) q p = chars c q (from_give c (k Basic) t n b p)
      go (Shift s') q p = shifts s' q p
      go Unused q p = clash cc

-- the pair's last value: the writer's, or a smaller one
pub record Third (x : Write.Step) (v : ℕ) (k : Set → Step) (n : ℕ) (b : Bool) : Type 0 where
  pub v' : ℕ
  pub s' : Set
  pub t' : List ℕ
  pub is : x ≡ val v' s' t'
  pub low : v' < 40
  pub goes : (v < v') ⊎ ((v ≡ v') × (k s' (length t') ≡ good t' n b))

module _ (b : Bool) (n : ℕ) (k : Set → Step) where
  equal :
      (x : Write.Step) (v v' : ℕ) (s : Set) (t : List ℕ) → x ≡ val v' s t → v' ≡ v → v < 40 → k s (length t) ≡ good t n b →
      Third x v k n b
  equal x v v' s t e q l r = record { v' = v'; s' = s; t' = t; is = e; low = omega arith; goes = inr (sym q, r) }

  larger : (v v' : ℕ) (s : Set) (t : List ℕ) → v < v' → v' < 40 → Third (val v' s t) v k n b
  larger v v' s t q l = record { v' = v'; s' = s; t' = t; is = refl; low = l; goes = inl q }

  third_char : (s : Set) (c : ℕ) (t : List ℕ) → set_of c ≡ s → cost b t d0 (odd n) ≤ n → third b n s (c ∷ t) ≡ val (number_of c) Basic t
  unfolding third
  third_char Basic c t e h = rw (e, le-leb (cost b t d0 (odd n)) n h)
  third_char Set1 c t e h = refl
  third_char Set2 c t e h = refl
  third_char Set3 c t e h = refl

  third_set2 : (t : List ℕ) → Own (λ t. cost b t d1 (odd n)) Set2 t n → third b n Basic t ≡ val 1 Set2 t
  unfolding third
  third_set2 [] o = absurd o
  third_set2 (c ∷ t) o = rw (o.0, le-leb (cost b t d1 (odd n)) n o.1)

  third_set3 : (t : List ℕ) → Own (λ t. cost b t d1 (odd n)) Set3 t n → third b n Basic t ≡ val 2 Set3 t
  unfolding third
  third_set3 [] o = absurd o
  third_set3 (c ∷ t) o = rw (o.0, le-leb (cost b t d1 (odd n)) n o.1)

  -- a filler, or a shift 1, is the smallest of all
  filler : (t : List ℕ) → Chars t → k Set1 (length t) ≡ good t n b → Third (third b n Basic t) 0 k n b
  unfolding third
  filler t hs r = go t hs (equal (val 0 Set1 t) 0 0 Set1 t refl refl (omega arith) r)
    where
      or_this :
          (x : Bool) (v : ℕ) (s : Set) (t u : List ℕ) → 0 < v → v < 40 → Third (val 0 Set1 t) 0 k n b →
          Third (pick x (val v s u) (val 0 Set1 t)) 0 k n b
      or_this true v s t u h l i = larger 0 v s u h l
      or_this false v s t u h l i = i

      by_set :
          (c : ℕ) (t : List ℕ) → c < 128 → Third (val 0 Set1 (c ∷ t)) 0 k n b → (s : Set) → set_of c ≡ s →
          Third (third_in b n s c t) 0 k n b
      by_set c t h i Basic e =
          or_this (fits b t d0 n) (number_of c) Basic (c ∷ t) t (omega (arith, basic_number c h e)) (number_low c h) i
      by_set c t h i Set1 e = i
      by_set c t h i Set2 e = or_this (fits b t d1 n) 1 Set2 (c ∷ t) (c ∷ t) (omega arith) (omega arith) i
      by_set c t h i Set3 e = or_this (fits b t d1 n) 2 Set3 (c ∷ t) (c ∷ t) (omega arith) (omega arith) i

      go : (t : List ℕ) → Chars t → Third (val 0 Set1 t) 0 k n b → Third (third b n Basic t) 0 k n b
      go [] hs i = i
      go (c ∷ t) hs i = by_set c t hs.0 i (set_of c) refl

  module _ (s : Set) (v : ℕ) (low : v < 40)
      (L : (s' : Set) (t' : List ℕ) → k s' (length t') ≡ good t' n b → Bound b (in_c40 s') (odd n) t' n)
      (t : List ℕ) (hs : Chars t) (e : put (value s v) k (length t) ≡ good t n b) where
    pub at_most : Third (third b n s t) v k n b
    at_most = go (value s v) refl e
      where
        chars : (c : ℕ) → value s v ≡ Char c → Front c (k Basic) t n b → Third (third b n s t) v k n b
        chars c q (front t' p r) =
            let z = char_of s v c low q in
            equal (third b n s t) v (number_of c) Basic t' (rw p (third_char s c t' z.0 (L Basic t' r))) z.1 low r

        shifts : (s' : Set) → shift_no s' ≡ v → Shifted s' → k s' (length t) ≡ good t n b → Third (third b n Basic t) v k n b
        shifts Basic q h r = absurd h
        shifts Set1 q h r = rw (← q) (filler t hs r)
        shifts Set2 q h r = equal (third b n Basic t) v 1 Set2 t (third_set2 t (L Set2 t r)) q low r
        shifts Set3 q h r = equal (third b n Basic t) v 2 Set3 t (third_set3 t (L Set3 t r)) q low r

        go : (x : Value) → value s v ≡ x → put x k (length t) ≡ good t n b → Third (third b n s t) v k n b
        go (Char c) q p = chars c q (from_give c (k Basic) t n b p)
        go (Shift s') q p = let z = shift_of s s' v low q in rw z.0 (shifts s' z.2 z.1 p)
        go Unused q p = clash cc
