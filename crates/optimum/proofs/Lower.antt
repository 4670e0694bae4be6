-- THE LOWER BOUND: codewords that read as the text are, before the pads, at least as many as the cost of their parity says. By
-- recursion on the codewords, in the clauses of `read`: each clause takes the edges of the cost in front of the bound of the rest.
-- A pair is one law for a value, used three times.
-- Assumes nothing.
use Prim.Native.Nat.{ℕ, suc, ◌+◌, ◌≤◌, ◌<◌}
use mathlib.Core.Bool.{Bool, true, false, not-not}
use mathlib.Core.List.{List, [], ◌∷◌}
use mathlib.Core.Logic.{◌⊎◌, inl, inr}
use mathlib.Core.Path.{◌≡◌, refl}
use native.Mathlib.Omega.{arith}
use lib.Dec.{eqb}
use lib.ListN.{length}
use Rattle.std.specs.Prelude.{Option, Some, None}
use Rattle.refusal.specs.Pick.{pick}
use Rattle.refusal.proofs.Tests.{clash}
use Rattle.codeword.specs.declared.Set.{Set}
use Rattle.codeword.specs.declared.Set.TheVariants.{Basic, Set1, Set2, Set3}
use Rattle.codeword.specs.declared.Value.{Value}
use Rattle.codeword.specs.declared.Value.TheVariants.{Char, Shift, Unused}
use Rattle.codeword.specs.declared.Ascii.{Ascii}
use Rattle.codeword.specs.declared.Ascii.TheVariants.{One, Two, Latch, Pad, Wrong}
use Rattle.codeword.specs.declared.Lone.{Lone}
use Rattle.codeword.specs.declared.Lone.TheVariants.{Ends, Last, Bad}
use Rattle.codeword.specs.Meanings.{ascii, lone, pair, value, unfinished}
use Rattle.codeword.specs.Reading.{good, Step, end, refuse, behind, give, put, finish, on_ascii, on_lone, on_pair, Mode, in_ascii, in_c40, read}
use Rattle.codeword.specs.Characters.{set_of}
use Rattle.optimum.specs.Cost.{asc, d0, d1, d2, fil, base, pairs, before, cost}
use Rattle.optimum.specs.Write.{odd}
use Rattle.optimum.proofs.Edge.{Shifted, char_edge, digit_edge, digit2_edge, basic0, basic1, basic2, shifted0, shifted1, shifted2, latch_edge, unlatch_edge, filler_edge, third_edge}
use Rattle.optimum.proofs.Values.{char_of, shift_of}
use Rattle.optimum.proofs.Codes.{Digits, is_two, Packed, is_three}
use Rattle.optimum.proofs.Accepted.{Front, from_give, Ticked, from_tick, one_value, two_values, three_values, behind_two, Twice, from_values, front, ticked, twice}

-- a shift to s was sent: the next character is of the set s, and what follows it costs at most m
abbrev pub Own : (List ℕ → ℕ) → Set → List ℕ → ℕ → Type 0
Own f s [] m = ⊥
Own f s (c ∷ t) m = (set_of c ≡ s) × (f t ≤ m)

-- in a set, with so many values in the pair: `cur` from here, `nxt` behind the next character, `F` behind a filler
abbrev pub At : (cur nxt F : List ℕ → ℕ) → Set → List ℕ → ℕ → Type 0
At cur nxt F Basic t m = cur t ≤ m
At cur nxt F Set1 t m = Own nxt Set1 t m ⊎ (F t ≤ m)
At cur nxt F Set2 t m = Own nxt Set2 t m
At cur nxt F Set3 t m = Own nxt Set3 t m

-- what the cost says of a reading from a mode: at most m codewords, of that parity
abbrev pub Bound : (padded : Bool) → Mode → (odd : Bool) → List ℕ → ℕ → Type 0
Bound b in_ascii p t m = cost b t asc p ≤ m
Bound b (in_c40 s) p t m = At (λ t. cost b t d0 p) (λ t. cost b t d1 p) (λ t. cost b t fil p) s t m

-- what is to be shown of a mode and a reading from it
abbrev Holds : Mode → Step → Type 0
Holds m o = (t : List ℕ) (n : ℕ) (b : Bool) → o (length t) ≡ good t n b → Bound b m (odd n) t n

-- ONE VALUE: `nxt2` is the cost behind a character of two values, F and F' those behind a filler before and after the value
module _ (cur nxt nxt2 F F' : List ℕ → ℕ)
    (on-basic : (c : ℕ) (t : List ℕ) → set_of c ≡ Basic → cur (c ∷ t) ≤ nxt t)
    (on-shifted : (c : ℕ) (t : List ℕ) (s : Set) → Shifted s → set_of c ≡ s → cur (c ∷ t) ≤ nxt2 t)
    (on-filler : (t : List ℕ) → cur t ≤ F' t) where
  by_char : (s : Set) (c : ℕ) (t : List ℕ) (m : ℕ) → set_of c ≡ s → nxt t ≤ m → At cur nxt F s (c ∷ t) m
  by_char Basic c t m e h = omega (arith, on-basic c t e)
  by_char Set1 c t m e h = inl (e, h)
  by_char Set2 c t m e h = (e, h)
  by_char Set3 c t m e h = (e, h)

  from_own : (s : Set) (t : List ℕ) (m : ℕ) → Shifted s → Own nxt2 s t m → cur t ≤ m
  from_own s [] m h o = absurd o
  from_own s (c ∷ t) m h o = omega (arith, on-shifted c t s h o.0, o.1)

  by_shift : (s : Set) (t : List ℕ) (m : ℕ) → Shifted s → At nxt nxt2 F' s t m → cur t ≤ m
  by_shift Basic t m h a = absurd h
  by_shift Set1 t m h (inl o) = from_own Set1 t m tt o
  by_shift Set1 t m h (inr l) = omega (arith, on-filler t)
  by_shift Set2 t m h a = from_own Set2 t m tt a
  by_shift Set3 t m h a = from_own Set3 t m tt a

  by_value :
      (s : Set) (v : ℕ) → v < 40 → (k : Set → Step) (t : List ℕ) (n : ℕ) (b : Bool) (m : ℕ) → put (value s v) k (length t) ≡ good t n b →
      ((s' : Set) (t' : List ℕ) → k s' (length t') ≡ good t' n b → At nxt nxt2 F' s' t' m) → At cur nxt F s t m
  by_value s v h k t n b m e ih = go (value s v) refl e
    where
      chars : (c : ℕ) → value s v ≡ Char c → Front c (k Basic) t n b → At cur nxt F s t m
      chars c q (front t' p r) = rw p (by_char s c t' m (char_of s v c h q).0 (ih Basic t' r))

      shifts : (s' : Set) → value s v ≡ Shift s' → k s' (length t) ≡ good t n b → At cur nxt F s t m
      shifts s' q r = let z = shift_of s s' v h q in rw z.0 (by_shift s' t m z.1 (ih s' t r))

      go : (x : Value) → value s v ≡ x → put x k (length t) ≡ good t n b → At cur nxt F s t m
      go (Char c) q p = chars c q (from_give c (k Basic) t n b p)
      go (Shift s') q p = shifts s' q p
      go Unused q p = clash cc

two_more :
    (cur nxt F : List ℕ → ℕ) (s : Set) (t : List ℕ) (m : ℕ) → At cur nxt F s t m →
    At (λ t. 2 + cur t) (λ t. 2 + nxt t) (λ t. 2 + F t) s t (2 + m)
two_more cur nxt F Basic t m a = omega arith
two_more cur nxt F Set1 [] m (inl o) = absurd o
two_more cur nxt F Set1 (c ∷ t) m (inl o) = inl (o.0, omega (arith, o.1))
two_more cur nxt F Set1 t m (inr l) = inr (omega arith)
two_more cur nxt F Set2 [] m a = absurd a
two_more cur nxt F Set2 (c ∷ t) m a = (a.0, omega (arith, a.1))
two_more cur nxt F Set3 [] m a = absurd a
two_more cur nxt F Set3 (c ∷ t) m a = (a.0, omega (arith, a.1))

-- THE THREE VALUES OF A PAIR
module _ (b p : Bool) where
  abbrev C0 : List ℕ → ℕ
  C0 t = cost b t d0 p

  abbrev C1 : List ℕ → ℕ
  C1 t = cost b t d1 p

  abbrev C2 : List ℕ → ℕ
  C2 t = cost b t d2 p

  abbrev CF : List ℕ → ℕ
  CF t = cost b t fil p

  abbrev Law : (here behind-it : Set → List ℕ → Type 0) → Type 0
  Law P Q =
      (s : Set) (v : ℕ) → v < 40 → (k : Set → Step) (t : List ℕ) (n : ℕ) → put (value s v) k (length t) ≡ good t n b →
      ((s' : Set) (t' : List ℕ) → k s' (length t') ≡ good t' n b → Q s' t') → P s t

  by_third : (m : ℕ) → Law (λ s t. At C2 (λ t. 2 + C0 t) C1 s t (2 + m)) (λ s t. At C0 C1 CF s t m)
  unfolding cost
  by_third m s v h k t n e ih =
      by_value C2 (λ t. 2 + C0 t) (λ t. 2 + C1 t) C1 (λ t. 2 + CF t)
      (λ c t q. basic2 c (cost b t) p q) (λ c t s h q. shifted2 c (cost b t) p s h q) (λ t. third_edge b t p)
      s v h k t n b (2 + m) e (λ s' t' q. two_more C0 C1 CF s' t' m (ih s' t' q))

  by_second : (m : ℕ) → Law (λ s t. At C1 C2 C0 s t m) (λ s t. At C2 (λ t. 2 + C0 t) C1 s t m)
  unfolding cost
  by_second m s v h k t n e ih =
      by_value C1 C2 (λ t. 2 + C0 t) C0 C1
      (λ c t q. basic1 c (cost b t) p q) (λ c t s h q. shifted1 c (cost b t) p s h q) (λ t. omega arith)
      s v h k t n b m e ih

  by_first : (m : ℕ) → Law (λ s t. At C0 C1 CF s t m) (λ s t. At C1 C2 C0 s t m)
  unfolding cost
  by_first m s v h k t n e ih =
      by_value C0 C1 C2 CF C0
      (λ c t q. basic0 c (cost b t) p q) (λ c t s h q. shifted0 c (cost b t) p s h q) (λ t. omega arith)
      s v h k t n b m e ih

  three :
      (s : Set) (a w x y z : ℕ) → Packed a w x y z → (k : Set → Step) (t : List ℕ) (n m : ℕ) →
      three_values x y z k s (length t) ≡ good t n b →
      ((s' : Set) (t' : List ℕ) → k s' (length t') ≡ good t' n b → At C0 C1 CF s' t' m) → At C0 C1 CF s t (2 + m)
  three s a w x y z R k t n m e ih =
      by_first (2 + m) s x R.first (two_values y z k) t n e λ s₁ t₁ e₁.
      by_second (2 + m) s₁ y R.second (one_value z k) t₁ n e₁ λ s₂ t₂ e₂.
      by_third m s₂ z R.third k t₂ n e₂ ih

-- ASCII MODE
module _ (oa oc : Step) (ia : Holds in_ascii oa) (ic : Holds (in_c40 Basic) oc) where
  on_one : (c : ℕ) → Holds in_ascii (give c (behind oa))
  unfolding odd cost
  on_one c t n b e = go (from_give c (behind oa) t n b e)
    where
      go₂ : (t' : List ℕ) → Ticked (oa (length t')) t' n b → cost b (c ∷ t') asc (odd n) ≤ n
      go₂ t' (ticked n' p q) = rw p (omega (arith, char_edge c (cost b t') (odd n'), ia t' n' b q))

      go : Front c (behind oa) t n b → cost b t asc (odd n) ≤ n
      go (front t' p q) = rw p (go₂ t' (from_tick (oa (length t')) t' n b q))

  on_two : (w c d : ℕ) → Digits w c d → Holds in_ascii (give c (give d (behind oa)))
  unfolding odd cost
  on_two w c d D t n b e = go (from_give c (give d (behind oa)) t n b e)
    where
      go₃ : (t₂ : List ℕ) → Ticked (oa (length t₂)) t₂ n b → cost b (c ∷ d ∷ t₂) asc (odd n) ≤ n
      go₃ t₂ (ticked n' p q) =
          rw p
          (omega
          (arith, digit_edge c (cost b (d ∷ t₂)) (odd n') D.one, digit2_edge d (cost b t₂) (odd n') D.two, ia t₂ n' b q))

      go₂ : (t₁ : List ℕ) → Front d (behind oa) t₁ n b → cost b (c ∷ t₁) asc (odd n) ≤ n
      go₂ t₁ (front t₂ p q) = rw p (go₃ t₂ (from_tick (oa (length t₂)) t₂ n b q))

      go : Front c (give d (behind oa)) t n b → cost b t asc (odd n) ≤ n
      go (front t₁ p q) = rw p (go₂ t₁ (from_give d (behind oa) t₁ n b q))

  on_latch : Holds in_ascii (behind oc)
  unfolding odd
  on_latch t n b e = go (from_tick (oc (length t)) t n b e)
    where
      go : Ticked (oc (length t)) t n b → cost b t asc (odd n) ≤ n
      go (ticked n' p q) = rw p (omega (arith, latch_edge b t (odd n'), ic t n' b q))

-- a reading that is known, and none
at_once : (m : Mode) (n : ℕ) (b : Bool) → Bound b m (odd n) [] n → Holds m (end n b)
at_once m n' b' h t n b e =
    let p : t ≡ [] = cc in
    let q : n ≡ n' = cc in
    let r : b ≡ b' = cc in
    rw (p, q, r) h

never : (m : Mode) (k : ℕ) → Holds m (refuse k)
never m k t n b e = clash cc

in_ascii_law : (w : ℕ) (oa oc : Step) → Holds in_ascii oa → Holds (in_c40 Basic) oc → Holds in_ascii (on_ascii (ascii w) oa oc)
unfolding cost base odd
in_ascii_law w oa oc ia ic = go (ascii w) refl
  where
    go : (x : Ascii) → ascii w ≡ x → Holds in_ascii (on_ascii x oa oc)
    go (One c) q = on_one oa oc ia ic c
    go (Two c d) q = on_two oa oc ia ic w c d (is_two w c d q)
    go Latch q = on_latch oa oc ia ic
    go Pad q = at_once in_ascii 0 true (omega arith)
    go Wrong q = never in_ascii _

-- C40 MODE

-- nothing may follow a shift 2 or 3 but its value
finished : (s : Set) (o : Step) → Holds (in_c40 Basic) o → Holds (in_c40 Set1) o → Holds (in_c40 s) (finish s o)
unfolding unfinished
finished Basic o h g = h
finished Set1 o h g = g
finished Set2 o h g = never (in_c40 Set2) _
finished Set3 o h g = never (in_c40 Set3) _

-- a return to ASCII mode
back_basic : (o : Step) → Holds in_ascii o → Holds (in_c40 Basic) (behind o)
unfolding odd
back_basic o i t n b e = go (from_tick (o (length t)) t n b e)
  where
    go : Ticked (o (length t)) t n b → cost b t d0 (odd n) ≤ n
    go (ticked n' p q) = rw p (omega (arith, unlatch_edge b t (odd n'), i t n' b q))

back_set1 : (o : Step) → Holds in_ascii o → Holds (in_c40 Set1) (behind o)
unfolding odd
back_set1 o i t n b e = inr (go (from_tick (o (length t)) t n b e))
  where
    go : Ticked (o (length t)) t n b → cost b t fil (odd n) ≤ n
    go (ticked n' p q) = rw p (omega (arith, filler_edge b t (odd n'), i t n' b q))

-- a pair
on_values :
    (s : Set) (a w x y z : ℕ) → Packed a w x y z → (k : Set → Step) → ((s' : Set) → Holds (in_c40 s') (k s')) →
    Holds (in_c40 s) (three_values x y z (behind_two k) s)
unfolding odd
on_values s a w x y z R k ih t n b e = go (from_values s x y z k t n b e)
  where
    go : Twice (three_values x y z k s) t n b → Bound b (in_c40 s) (odd n) t n
    go (twice n₂ p q) =
        let r : 2 + n₂ ≡ suc (suc n₂) = omega arith in
        rw (p, not-not (odd n₂), ← r) (three b (odd n₂) s a w x y z R k t n₂ n₂ q (λ s' t' q'. ih s' t' n₂ b q'))

in_c40_law :
    (s : Set) (a w : ℕ) (o : Step) (k : Set → Step) → Holds in_ascii o → ((s' : Set) → Holds (in_c40 s') (k s')) →
    Holds (in_c40 s) (pick (eqb a 254) (finish s (behind o)) (on_pair (pair a w) s k))
in_c40_law s a w o k i ih = back (eqb a 254)
  where
    go : (x : Option (ℕ × ℕ × ℕ)) → pair a w ≡ x → Holds (in_c40 s) (on_pair x s k)
    go (Some (x, y, z)) q = on_values s a w x y z (is_three a w x y z q) k ih
    go None q = never (in_c40 s) _

    back : (x : Bool) → Holds (in_c40 s) (pick x (finish s (behind o)) (on_pair (pair a w) s k))
    back true = finished s (behind o) (back_basic o i) (back_set1 o i)
    back false = go (pair a w) refl

-- the end, and the lone last codeword
on_end : (s : Set) → Holds (in_c40 s) (finish s (end 0 false))
unfolding cost base odd
on_end s = finished s (end 0 false) (at_once (in_c40 Basic) 0 false (omega arith)) (at_once (in_c40 Set1) 0 false (inr (omega arith)))

last_one_law : (c : ℕ) (m : Mode) → Bound false m (odd 1) (c ∷ []) 1 → Holds m (give c (end 1 false))
last_one_law c m h t n b e = go (from_give c (end 1 false) t n b e)
  where
    go : Front c (end 1 false) t n b → Bound b m (odd n) t n
    go (front t' p q) =
        let p₁ : t ≡ c ∷ [] = cc in
        let p₂ : n ≡ 1 = cc in
        let p₃ : b ≡ false = cc in
        rw (p₁, p₂, p₃) h

in_lone : (s : Set) (l : Lone) → Holds (in_c40 s) (finish s (on_lone l))
unfolding cost base odd before pairs
in_lone s Ends = finished s (on_lone Ends) (at_once (in_c40 Basic) 1 false (omega arith)) (at_once (in_c40 Set1) 1 false (inr (omega arith)))
in_lone s (Last c) =
    finished s (on_lone (Last c)) (last_one_law c (in_c40 Basic) (omega arith)) (last_one_law c (in_c40 Set1) (inr (omega arith)))
in_lone s Bad = finished s (on_lone Bad) (never (in_c40 Basic) _) (never (in_c40 Set1) _)

pub lower : (ws : List ℕ) (m : Mode) → Holds m (read ws m)
unfolding read cost base odd
lower [] in_ascii = at_once in_ascii 0 false (omega arith)
lower [] (in_c40 s) = on_end s
lower (w ∷ ws) in_ascii = in_ascii_law w (read ws in_ascii) (read ws (in_c40 Basic)) (lower ws in_ascii) (lower ws (in_c40 Basic))
lower (a ∷ []) (in_c40 s) = in_lone s (lone a)
lower (a ∷ b ∷ ws) (in_c40 s) =
    in_c40_law s a b (read (b ∷ ws) in_ascii) (λ s'. read ws (in_c40 s')) (lower (b ∷ ws) in_ascii) (λ s'. lower ws (in_c40 s'))
