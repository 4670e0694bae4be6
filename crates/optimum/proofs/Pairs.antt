-- A pair that is chosen can be finished: where the costs say that 2 + n codewords will do from a pair's first value on, the
-- writer's three values are read as the text in front of a rest that n codewords will do for. One law serves the first two values.
-- Assumes nothing.
use Prim.Native.Nat.{ℕ, suc, ◌+◌, ◌/◌, ◌%◌, ◌≤◌, ◌<◌}
use mathlib.Core.Bool.{Bool, true, false}
use mathlib.Core.List.{List, [], ◌∷◌}
use mathlib.Core.Logic.{inl, inr}
use mathlib.Core.Path.{◌≡◌, refl, ap}
use native.Mathlib.Omega.{arith}
use lib.Dec.{leb}
use lib.ListN.{length}
use borrow.Author.Tests.{leb-true, leb-false}
use Rattle.refusal.specs.Pick.{pick}
use Rattle.codeword.specs.declared.Set.{Set}
use Rattle.codeword.specs.declared.Set.TheVariants.{Basic, Set1, Set2, Set3}
use Rattle.codeword.specs.Meanings.{value}
use Rattle.codeword.specs.Reading.{Reading, good, tick, Step, put, in_c40, read}
use Rattle.codeword.specs.Characters.{set_of, number_of}
use Rattle.codeword.proofs.Characters.{value_turned, number_low}
use Rattle.optimum.specs.Cost.{State, d0, d1, d2, fil, inf, forms, base, before, cost}
use Rattle.optimum.specs.Write
use Rattle.optimum.specs.Write.{odd, fits, val, next_in, next, third_in, third, two, pack, pair}
use Rattle.optimum.proofs.Edge.{Shifted, shifted_forms}
use Rattle.optimum.proofs.Values.{Chars, Bytes, shift_no}
use Rattle.optimum.proofs.Codes.{pair_of, pair_low, pair_bytes}
use Rattle.optimum.proofs.Accepted.{one_value, two_values, behind_two}
use Rattle.optimum.proofs.Lower.{Own, At}

-- `At` with no filler
abbrev pub Pure : (cur nxt : List ℕ → ℕ) → Set → List ℕ → ℕ → Type 0
Pure cur nxt Basic t m = cur t ≤ m
Pure cur nxt Set1 t m = Own nxt Set1 t m
Pure cur nxt Set2 t m = Own nxt Set2 t m
Pure cur nxt Set3 t m = Own nxt Set3 t m

put_char :
    (s : Set) (c : ℕ) → c < 128 → set_of c ≡ s → (k : Set → Step) (t : List ℕ) (n : ℕ) (b : Bool) →
    k Basic (length t) ≡ good t n b → put (value s (number_of c)) k (suc (length t)) ≡ good (c ∷ t) n b
put_char s c h e k t n b q = rw (← e, value_turned c h, q)

put_shift : (s : Set) → Shifted s → (k : Set → Step) (r : ℕ) (o : Reading) → k s r ≡ o → put (value Basic (shift_no s)) k r ≡ o
unfolding value
put_shift Basic h k r o q = absurd h
put_shift Set1 h k r o q = q
put_shift Set2 h k r o q = q
put_shift Set3 h k r o q = q

-- a step that reads as what it should, and leads where P holds
record Go (P : Set → List ℕ → Type 0) (b : Bool) (s : Set) (t : List ℕ) (x : Write.Step) : Type 0 where
  pub v : ℕ
  pub s' : Set
  pub t' : List ℕ
  pub is : x ≡ val v s' t'
  pub low : v < 40
  pub chars : Chars t'
  pub leads : P s' t'
  pub reads : (k : Set → Step) (n : ℕ) → k s' (length t') ≡ good t' n b → put (value s v) k (length t) ≡ good t n b

shift_low : (s : Set) → shift_no s < 40
shift_low Basic = omega arith
shift_low Set1 = omega arith
shift_low Set2 = omega arith
shift_low Set3 = omega arith

module _ (P : Set → List ℕ → Type 0) (b : Bool) where
  go_char : (s : Set) (c : ℕ) (t : List ℕ) → set_of c ≡ s → Chars (c ∷ t) → P Basic t → Go P b s (c ∷ t) (val (number_of c) Basic t)
  go_char s c t e hs p =
      record {
        v = number_of c;
        s' = Basic;
        t' = t;
        is = refl;
        low = number_low c hs.0;
        chars = hs.1;
        leads = p;
        reads = λ k n q. put_char s c hs.0 e k t n b q;
      }

  go_shift : (s : Set) (t : List ℕ) → Shifted s → Chars t → P s t → Go P b Basic t (val (shift_no s) s t)
  go_shift s t h hs p =
      record {
        v = shift_no s;
        s' = s;
        t' = t;
        is = refl;
        low = shift_low s;
        chars = hs;
        leads = p;
        reads = λ k n q. put_shift s h k (length t) (good t n b) q;
      }

-- ONE VALUE OF THE FIRST TWO
module _ (cur nxt nxt2 : List ℕ → ℕ) (m : ℕ) (at_end : cur [] ≤ m → ⊥)
    (down-basic : (c : ℕ) (t : List ℕ) → set_of c ≡ Basic → cur (c ∷ t) ≤ m → nxt t ≤ m)
    (down-shifted : (c : ℕ) (t : List ℕ) (s : Set) → Shifted s → set_of c ≡ s → cur (c ∷ t) ≤ m → nxt2 t ≤ m) (b : Bool) where
  abbrev On : Set → List ℕ → Type 0
  On s t = Pure nxt nxt2 s t m

  go_next : (s : Set) (t : List ℕ) → Chars t → Pure cur nxt s t m → Go On b s t (next s t)
  unfolding next
  go_next Basic [] hs p = absurd (at_end p)
  go_next Basic (c ∷ t) hs p = go (set_of c) refl
    where
      go : (s : Set) → set_of c ≡ s → Go On b Basic (c ∷ t) (next_in s c t)
      go Basic e = go_char On b Basic c t e hs (down-basic c t e p)
      go Set1 e = go_shift On b Set1 (c ∷ t) tt hs (e, down-shifted c t Set1 tt e p)
      go Set2 e = go_shift On b Set2 (c ∷ t) tt hs (e, down-shifted c t Set2 tt e p)
      go Set3 e = go_shift On b Set3 (c ∷ t) tt hs (e, down-shifted c t Set3 tt e p)
  go_next Set1 [] hs p = absurd p
  go_next Set1 (c ∷ t) hs p = go_char On b Set1 c t p.0 hs p.1
  go_next Set2 [] hs p = absurd p
  go_next Set2 (c ∷ t) hs p = go_char On b Set2 c t p.0 hs p.1
  go_next Set3 [] hs p = absurd p
  go_next Set3 (c ∷ t) hs p = go_char On b Set3 c t p.0 hs p.1

-- the cost from a state, as a function of the text
abbrev pub C : State → Bool → Bool → List ℕ → ℕ
C st b p t = cost b t st p

-- what a pair costs from its first value on: no return to ASCII mode, and no lone codeword
abbrev pub first : Bool → Bool → List ℕ → ℕ
first b p [] = inf
first b p (c ∷ t) = forms (set_of c) (cost b t d1 p) (cost b t d2 p)

-- with 0, 1 or 2 values in the pair
module _ (b p : Bool) (m : ℕ) where
  abbrev pub Pure0 : Set → List ℕ → Type 0
  Pure0 s t = Pure (first b p) (C d1 b p) s t m

  abbrev Pure1 : Set → List ℕ → Type 0
  Pure1 s t = Pure (C d1 b p) (C d2 b p) s t m

  abbrev Pure2 : Set → List ℕ → Type 0
  Pure2 s t = Pure (C d2 b p) (λ t. 2 + C d0 b p t) s t m

module _ (b p : Bool) (m : ℕ) (small : m < inf) where
  go_first : (s : Set) (t : List ℕ) → Chars t → Pure0 b p m s t → Go (Pure1 b p m) b s t (next s t)
  go_first =
      go_next (first b p) (C d1 b p) (C d2 b p) m (λ h. omega arith) (λ c t e h. rw e at h)
      (λ c t s g e h. rw (e, shifted_forms s (cost b t d1 p) (cost b t d2 p) g) at h) b

  go_second : (s : Set) (t : List ℕ) → Chars t → Pure1 b p m s t → Go (Pure2 b p m) b s t (next s t)
  unfolding cost base before
  go_second =
      go_next (C d1 b p) (C d2 b p) (λ t. 2 + C d0 b p t) m (λ h. omega arith) (λ c t e h. rw e at h)
      (λ c t s g e h. rw (e, shifted_forms s (cost b t d2 p) (2 + cost b t d0 p) g) at h) b

-- THE LAST VALUE OF A PAIR, with n codewords behind it
end_third : (b p : Bool) (n : ℕ) → cost b [] d2 p ≤ 2 + n → cost b [] fil p ≤ n
unfolding cost base
end_third b true n h = omega arith
end_third true false n h = omega arith
end_third false false n h = omega arith

-- behind the pair, with n codewords left
abbrev pub Then : Bool → ℕ → Set → List ℕ → Type 0
Then b n s t = At (C d0 b (odd n)) (C d1 b (odd n)) (C fil b (odd n)) s t n

module _ (b : Bool) (n : ℕ) where
  go_filler : (t : List ℕ) → Chars t → cost b t fil (odd n) ≤ n → Go (Then b n) b Basic t (val 0 Set1 t)
  go_filler t hs h = go_shift (Then b n) b Set1 t tt hs (inr h)

  module _ (c : ℕ) (t : List ℕ) (hs : Chars (c ∷ t)) (h : cost b (c ∷ t) d2 (odd n) ≤ 2 + n) where
    -- the filler, where the value costs too much
    else_filler :
        (f : ℕ) → forms (set_of c) (cost b t d0 (odd n)) (cost b t d1 (odd n)) ≡ f → leb f n ≡ false →
        Go (Then b n) b Basic (c ∷ t) (val 0 Set1 (c ∷ t))
    unfolding cost before
    else_filler f e q = go_filler (c ∷ t) hs (enough (leb-false f n q))
      where
        enough : n < f → cost b (c ∷ t) fil (odd n) ≤ n
        enough g = omega (arith, e)

    on_third : (s : Set) → set_of c ≡ s → Go (Then b n) b Basic (c ∷ t) (third_in b n s c t)
    on_third Basic e = go (fits b t d0 n) refl
      where
        go : (x : Bool) → fits b t d0 n ≡ x → Go (Then b n) b Basic (c ∷ t) (pick x (val (number_of c) Basic t) (val 0 Set1 (c ∷ t)))
        go true q = go_char (Then b n) b Basic c t e hs (leb-true _ _ q)
        go false q = else_filler (cost b t d0 (odd n)) (rw e) q
    on_third Set1 e = go (fits b t d1 n) refl
      where
        go : (x : Bool) → fits b t d1 n ≡ x → Go (Then b n) b Basic (c ∷ t) (val 0 Set1 (c ∷ t))
        go true q = go_shift (Then b n) b Set1 (c ∷ t) tt hs (inl (e, leb-true _ _ q))
        go false q = else_filler (cost b t d1 (odd n)) (rw e) q
    on_third Set2 e = go (fits b t d1 n) refl
      where
        go : (x : Bool) → fits b t d1 n ≡ x → Go (Then b n) b Basic (c ∷ t) (pick x (val 1 Set2 (c ∷ t)) (val 0 Set1 (c ∷ t)))
        go true q = go_shift (Then b n) b Set2 (c ∷ t) tt hs (e, leb-true _ _ q)
        go false q = else_filler (cost b t d1 (odd n)) (rw e) q
    on_third Set3 e = go (fits b t d1 n) refl
      where
        go : (x : Bool) → fits b t d1 n ≡ x → Go (Then b n) b Basic (c ∷ t) (pick x (val 2 Set3 (c ∷ t)) (val 0 Set1 (c ∷ t)))
        go true q = go_shift (Then b n) b Set3 (c ∷ t) tt hs (e, leb-true _ _ q)
        go false q = else_filler (cost b t d1 (odd n)) (rw e) q

  go_third : (s : Set) (t : List ℕ) → Chars t → Pure2 b (odd n) (2 + n) s t → Go (Then b n) b s t (third b n s t)
  unfolding third
  go_third Basic [] hs p = go_filler [] hs (end_third b (odd n) n p)
  go_third Basic (c ∷ t) hs p = on_third c t hs p (set_of c) refl
  go_third Set1 [] hs p = absurd p
  go_third Set1 (c ∷ t) hs p = go_char (Then b n) b Set1 c t p.0 hs (omega (arith, p.1))
  go_third Set2 [] hs p = absurd p
  go_third Set2 (c ∷ t) hs p = go_char (Then b n) b Set2 c t p.0 hs (omega (arith, p.1))
  go_third Set3 [] hs p = absurd p
  go_third Set3 (c ∷ t) hs p = go_char (Then b n) b Set3 c t p.0 hs (omega (arith, p.1))

-- THE PAIR
pub record GoPair (b : Bool) (n : ℕ) (s : Set) (t : List ℕ) : Type 0 where
  pub a : ℕ
  pub w : ℕ
  pub s' : Set
  pub t' : List ℕ
  pub is : pair b n s t ≡ two a w (in_c40 s') t'
  pub chars : Chars t'
  pub bytes : Bytes (a ∷ w ∷ [])
  pub leads : Then b n s' t'
  pub reads :
      (ws : List ℕ) → read ws (in_c40 s') (length t') ≡ good t' n b → read (a ∷ w ∷ ws) (in_c40 s) (length t) ≡ good t (suc (suc n)) b

join :
    (b : Bool) (n : ℕ) (s : Set) (t : List ℕ) {P Q : Set → List ℕ → Type 0} (X : Go P b s t (next s t))
    (Y : Go Q b X.s' X.t' (next X.s' X.t')) (Z : Go (Then b n) b Y.s' Y.t' (third b n Y.s' Y.t')) → GoPair b n s t
unfolding pair read
join b n s t X Y Z =
    record {
      a = pack X.v Y.v Z.v / 256;
      w = pack X.v Y.v Z.v % 256;
      s' = Z.s';
      t' = Z.t';
      is = rw (X.is, Y.is, Z.is);
      chars = Z.chars;
      bytes = pair_bytes X.v Y.v Z.v X.low Y.low Z.low;
      leads = Z.leads;
      reads = λ ws q.
          let k : Set → Step = behind_two (λ s. read ws (in_c40 s)) in
          let e₃ : one_value Z.v k Y.s' (length Y.t') ≡ good Y.t' (suc (suc n)) b =
          Z.reads k (suc (suc n)) (ap (λ o. tick (tick o)) q) in
          let e₂ : two_values Y.v Z.v k X.s' (length X.t') ≡ good X.t' (suc (suc n)) b =
          Y.reads (one_value Z.v k) (suc (suc n)) e₃ in
          let e₁ = X.reads (two_values Y.v Z.v k) (suc (suc n)) e₂ in
          rw (pair_low X.v Y.v Z.v X.low Y.low Z.low, pair_of X.v Y.v Z.v X.low Y.low Z.low, e₁);
    }

module _ (b : Bool) (n : ℕ) (small : n < 2000) where
  pub go_pair : (s : Set) (t : List ℕ) → Chars t → Pure0 b (odd n) (2 + n) s t → GoPair b n s t
  go_pair s t hs h = at_first (go_first b (odd n) (2 + n) (omega arith) s t hs h)
    where
      at_second :
          (X : Go (Pure1 b (odd n) (2 + n)) b s t (next s t)) →
          Go (Pure2 b (odd n) (2 + n)) b X.s' X.t' (next X.s' X.t') → GoPair b n s t
      at_second X Y = join b n s t X Y (go_third b n Y.s' Y.t' Y.chars Y.leads)

      at_first : Go (Pure1 b (odd n) (2 + n)) b s t (next s t) → GoPair b n s t
      at_first X = at_second X (go_second b (odd n) (2 + n) (omega arith) X.s' X.t' X.chars X.leads)
