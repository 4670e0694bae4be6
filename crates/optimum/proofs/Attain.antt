-- What the writer writes is read as the text, where the cost says that n codewords will do: each of its moves is read as what it
-- should be and leads to where the cost says that the rest will do. Where the larger codeword is passed over, it cost too much,
-- and the minimum in the cost leaves the next one. So the greedy choice never runs out.
-- Assumes nothing.
use Prim.Native.Nat.{ℕ, zero, suc, ◌+◌, ◌-◌, ◌*◌, ◌≤◌, ◌<◌}
use mathlib.Core.Bool.{Bool, true, false, not, ◌&&◌, not-not}
use mathlib.Core.List.{List, [], ◌∷◌, ◌++◌}
use mathlib.Core.Logic.{◌⊎◌, inl, inr}
use mathlib.Core.Path.{◌≡◌, refl, ap}
use native.Mathlib.Omega.{arith}
use lib.Dec.{leb}
use lib.ListN.{length}
use borrow.Author.Tests.{leb-true, leb-false}
use Rattle.refusal.specs.Pick.{pick}
use Rattle.refusal.proofs.Tests.{clash}
use Rattle.codeword.specs.declared.Set.{Set}
use Rattle.codeword.specs.declared.Set.TheVariants.{Basic, Set1, Set2, Set3}
use Rattle.codeword.specs.declared.Ascii.{Ascii}
use Rattle.codeword.specs.declared.Ascii.TheVariants.{One, Two, Latch, Pad, Wrong}
use Rattle.codeword.specs.Meanings.{ascii, lone, unfinished}
use Rattle.codeword.specs.Reading.{Reading, good, refused, tick, behind, give, on_ascii, Mode, in_ascii, in_c40, read}
use Rattle.codeword.specs.Characters.{set_of}
use Rattle.optimum.specs.Cost.{State, asc, dig, d0, d1, d2, fil, fin, inf, digit, forms, base, chars, pairs, before, cost}
use Rattle.optimum.specs.Write.{odd, fits, Move, one, two, none, pair, character, move, run, write}
use Rattle.optimum.proofs.Values.{Chars, Bytes}
use Rattle.optimum.proofs.Codes.{ascii_one, ascii_two, two_byte, lone_last}
use Rattle.optimum.proofs.Accepted.{Front, from_give, front}
use Rattle.optimum.proofs.Lower.{Own, Bound}
use Rattle.optimum.proofs.Pairs.{C, Pure0, GoPair, go_pair}

-- a move of some codewords that reads as what it should, and leads to where the rest can be written
pub record On (b : Bool) (n : ℕ) (m : Mode) (t ws : List ℕ) (n' : ℕ) (m' : Mode) (t' : List ℕ) : Type 0 where
  pub bound : Bound b m' (odd n') t' n'
  pub chars : Chars t'
  pub bytes : Bytes ws
  pub reads : (r : List ℕ) → read r m' (length t') ≡ good t' n' b → read (ws ++ r) m (length t) ≡ good t n b

abbrev pub Leads : Bool → ℕ → Mode → List ℕ → Move → Type 0
Leads b zero m t x = ⊥
Leads b (suc n) m t (one w m' t') = On b (suc n) m t (w ∷ []) n m' t'
Leads b (suc zero) m t (two v w m' t') = ⊥
Leads b (suc (suc n)) m t (two v w m' t') = On b (suc (suc n)) m t (v ∷ w ∷ []) n m' t'
Leads b (suc n) m t none = ⊥

-- READING WHAT IS WRITTEN

-- a return to ASCII mode, also by the lone last codeword
read_254 :
    (s : Set) → unfinished s ≡ false → (ws t : List ℕ) (n : ℕ) (b : Bool) → read ws in_ascii (length t) ≡ good t n b →
    read (254 ∷ ws) (in_c40 s) (length t) ≡ good t (suc n) b
unfolding read lone
read_254 s h [] t n b e = rw h (cc)
read_254 s h (w ∷ ws) t n b e = rw h (ap tick e)

-- codewords that read as the empty text with no pad: there is none
pub none_left : (ws t : List ℕ) → read ws in_ascii (length t) ≡ good t 0 false → ws ≡ []
unfolding read
none_left [] t e = refl
none_left (w ∷ ws) t e = go (ascii w) e
  where
    tick_pos : (o : Reading) (t : List ℕ) → tick o ≡ good t 0 false → w ∷ ws ≡ []
    tick_pos (refused k p) t q = cc
    tick_pos (good t' n b) t q = cc

    by_one : (c : ℕ) (t : List ℕ) → Front c (behind (read ws in_ascii)) t 0 false → w ∷ ws ≡ []
    by_one c t (front t' p q) = tick_pos (read ws in_ascii (length t')) t' q

    by_two : (c d : ℕ) → Front c (give d (behind (read ws in_ascii))) t 0 false → w ∷ ws ≡ []
    by_two c d (front t' p q) = by_one d t' (from_give d (behind (read ws in_ascii)) t' 0 false q)

    go : (x : Ascii) → on_ascii x (read ws in_ascii) (read ws (in_c40 Basic)) (length t) ≡ good t 0 false → w ∷ ws ≡ []
    go (One c) q = by_one c t (from_give c (behind (read ws in_ascii)) t 0 false q)
    go (Two c d) q = by_two c d (from_give c (give d (behind (read ws in_ascii))) t 0 false q)
    go Latch q = tick_pos (read ws (in_c40 Basic) (length t)) t q
    go Pad q = cc
    go Wrong q = cc

read_last :
    (s : Set) (c : ℕ) → unfinished s ≡ false → c < 128 → (ws : List ℕ) → read ws in_ascii 0 ≡ good [] 0 false →
    read (suc c ∷ ws) (in_c40 s) 1 ≡ good (c ∷ []) 1 false
unfolding read
read_last s c h l ws e = rw (none_left ws [] e, lone_last c l, h)

-- SMALL FACTS ON THE COSTS
forms_low : (m : ℕ) (s : Set) (x y : ℕ) → m ≤ x → m ≤ y → m ≤ forms s x y
forms_low m Basic x y h g = h
forms_low m Set1 x y h g = g
forms_low m Set2 x y h g = g
forms_low m Set3 x y h g = g

pick_low : (m : ℕ) (x : Bool) (y z : ℕ) → m ≤ y → m ≤ z → m ≤ pick x y z
pick_low m true y z h g = h
pick_low m false y z h g = g

two_at_least : (b : Bool) (t : List ℕ) (p : Bool) → (2 ≤ cost b t d1 p) × (2 ≤ cost b t d2 p)
unfolding cost base before
two_at_least true [] true = (omega arith, omega arith)
two_at_least true [] false = (omega arith, omega arith)
two_at_least false [] true = (omega arith, omega arith)
two_at_least false [] false = (omega arith, omega arith)
two_at_least b (c ∷ t) p =
    (forms_low 2 (set_of c) (cost b t d2 p) (2 + cost b t d0 p) (two_at_least b t p).1 (omega arith), omega arith)

-- a pair is two codewords
forms_two : (b : Bool) (c : ℕ) (t : List ℕ) (p : Bool) → 2 ≤ forms (set_of c) (cost b t d1 p) (cost b t d2 p)
forms_two b c t p = forms_low 2 (set_of c) (cost b t d1 p) (cost b t d2 p) (two_at_least b t p).0 (two_at_least b t p).1

one_at_least : (b : Bool) (c : ℕ) (t : List ℕ) (p : Bool) → 1 ≤ chars c (cost b t) p
unfolding chars
one_at_least b c t p = omega (arith, pick_low 1 (digit c) (suc (cost b t dig (not p))) inf (omega arith) (omega arith))

odd_pos : (n : ℕ) → odd n ≡ true → 1 ≤ n
unfolding odd
odd_pos zero e = clash cc
odd_pos (suc n) e = omega arith

-- ASCII MODE: 230, two digits, or a character. Every capacity is below 2000, and that is far below `inf`.
module _ (b : Bool) (n : ℕ) (small : n < 2000) where
  -- where 230 will not do
  no_latch :
      (c : ℕ) (t : List ℕ) (q : Bool) → n < cost b (c ∷ t) d0 q → cost b (c ∷ t) asc (not q) ≤ suc n → chars c (cost b t) (not q) ≤ suc n
  unfolding cost before
  no_latch c t true h g = omega arith
  no_latch c t false h g = omega arith

  by_char : (c : ℕ) (k : State → Bool → ℕ) (q : Bool) → chars c k (not q) ≤ suc n → n < k dig q → k asc q ≤ n
  unfolding chars
  by_char c k true h g = omega (arith, pick_low (suc (suc n)) (digit c) (suc (k dig true)) inf (omega arith) (omega arith))
  by_char c k false h g = omega (arith, pick_low (suc (suc n)) (digit c) (suc (k dig false)) inf (omega arith) (omega arith))

  by_no_digit : (c : ℕ) (k : State → Bool → ℕ) (q : Bool) → chars c k (not q) ≤ suc n → digit c ≡ false → k asc q ≤ n
  unfolding chars
  by_no_digit c k true h e = let g = rw e at h in omega arith
  by_no_digit c k false h e = let g = rw e at h in omega arith

  go_char : (c : ℕ) (t : List ℕ) → Chars (c ∷ t) → cost b t asc (odd n) ≤ n → Leads b (suc n) in_ascii (c ∷ t) (one (suc c) in_ascii t)
  unfolding read
  go_char c t hs h =
      record { bound = h; chars = hs.1; bytes = (omega (arith, hs.0), tt); reads = λ ws q. rw (ascii_one c hs.0, q) }

  go_two :
      (c d : ℕ) (t : List ℕ) → Chars (c ∷ d ∷ t) → digit c ≡ true → digit d ≡ true → cost b t asc (odd n) ≤ n →
      Leads b (suc n) in_ascii (c ∷ d ∷ t) (one (130 + (10 * (c - 48) + (d - 48))) in_ascii t)
  unfolding read
  go_two c d t hs p q h =
      record { bound = h; chars = hs.1.1; bytes = (two_byte c d p q, tt); reads = λ ws r. rw (ascii_two c d p q, r) }

  no_end : (b q : Bool) → (q ≡ true → 1 ≤ n) → n < cost b [] d0 q → cost b [] asc (not q) ≤ suc n → ⊥
  unfolding cost base
  no_end b true p h g = let l = p refl in omega arith
  no_end true false p h g = omega arith
  no_end false false p h g = omega arith

  end_dig : (q : Bool) → n < cost b [] dig q
  unfolding cost base
  end_dig q = omega arith

  -- where two digits will not do
  no_two : (d : ℕ) (t : List ℕ) (q y z : Bool) → digit d ≡ y → leb (cost b t asc q) n ≡ z → y && z ≡ false → n < cost b (d ∷ t) dig q
  unfolding cost before
  no_two d t q true true e f g = clash cc
  no_two d t q true false e f g = rw e (leb-false _ _ f)
  no_two d t q false z e f g = rw e (omega arith)

  on_two :
      (c d : ℕ) (t : List ℕ) → Chars (c ∷ d ∷ t) → chars c (cost b (d ∷ t)) (not (odd n)) ≤ suc n → (x y z : Bool) →
      digit c ≡ x → digit d ≡ y → fits b t asc n ≡ z →
      Leads b (suc n) in_ascii (c ∷ d ∷ t)
      (pick (x && y && z) (one (130 + (10 * (c - 48) + (d - 48))) in_ascii t) (one (suc c) in_ascii (d ∷ t)))
  on_two c d t hs h true true true p q r = go_two c d t hs p q (leb-true _ _ r)
  on_two c d t hs h true true false p q r =
      go_char c (d ∷ t) hs (by_char c (cost b (d ∷ t)) (odd n) h (no_two d t (odd n) true false q r refl))
  on_two c d t hs h true false z p q r =
      go_char c (d ∷ t) hs (by_char c (cost b (d ∷ t)) (odd n) h (no_two d t (odd n) false z q r refl))
  on_two c d t hs h false y z p q r = go_char c (d ∷ t) hs (by_no_digit c (cost b (d ∷ t)) (odd n) h p)

  go_letter :
      (t : List ℕ) → Chars t → n < cost b t d0 (odd n) → cost b t asc (not (odd n)) ≤ suc n → Leads b (suc n) in_ascii t (character b n t)
  go_letter [] hs h g = absurd (no_end b (odd n) (odd_pos n) h g)
  go_letter (c ∷ []) hs h g = go_char c [] hs (by_char c (cost b []) (odd n) (no_latch c [] (odd n) h g) (end_dig (odd n)))
  go_letter (c ∷ d ∷ t) hs h g =
      on_two c d t hs (no_latch c (d ∷ t) (odd n) h g) (digit c) (digit d) (fits b t asc n) refl refl refl

  go_ascii : (t : List ℕ) → Chars t → cost b t asc (odd (suc n)) ≤ suc n → Leads b (suc n) in_ascii t (move b (suc n) in_ascii t)
  unfolding move odd read ascii
  go_ascii t hs h = go (fits b t d0 n) refl
    where
      go : (x : Bool) → fits b t d0 n ≡ x → Leads b (suc n) in_ascii t (pick x (one 230 (in_c40 Basic) t) (character b n t))
      go true e = record { bound = leb-true _ _ e; chars = hs; bytes = (omega arith, tt); reads = λ ws q. rw q }
      go false e = go_letter t hs (leb-false _ _ e) h

-- C40 MODE, one codeword left
fin_zero : (b : Bool) (t : List ℕ) → cost b t fin false ≤ 0 → (t ≡ []) × (b ≡ false)
unfolding cost base before
fin_zero true [] h = absurd (omega arith)
fin_zero false [] h = (refl, refl)
fin_zero b (c ∷ t) h = absurd (omega arith)

at_one : (b : Bool) (s : Set) (c : ℕ) (t : List ℕ) → Bound b (in_c40 s) true (c ∷ t) 1 → (unfinished s ≡ false) × (cost b t fin false ≤ 0)
unfolding cost before pairs unfinished
at_one b Basic c t h = (refl, omega (arith, one_at_least b c t false, forms_two b c t true))
at_one b Set1 c t (inl o) = absurd (omega (arith, (two_at_least b t true).0, o.1))
at_one b Set1 c t (inr l) = (refl, omega (arith, one_at_least b c t false))
at_one b Set2 c t o = absurd (omega (arith, (two_at_least b t true).0, o.1))
at_one b Set3 c t o = absurd (omega (arith, (two_at_least b t true).0, o.1))

finished_end : (b : Bool) (s : Set) (p : Bool) (m : ℕ) → Bound b (in_c40 s) p [] m → unfinished s ≡ false
unfolding unfinished
finished_end b Basic p m h = refl
finished_end b Set1 p m h = refl
finished_end b Set2 p m h = absurd h
finished_end b Set3 p m h = absurd h

go_back :
    (b : Bool) (s : Set) (n : ℕ) (t : List ℕ) → Chars t → unfinished s ≡ false → cost b t asc (odd n) ≤ n →
    Leads b (suc n) (in_c40 s) t (one 254 in_ascii t)
go_back b s n t hs h g = record { bound = g; chars = hs; bytes = (omega arith, tt); reads = λ ws q. read_254 s h ws t n b q }

asc_end : (b : Bool) → cost b [] asc false ≤ 0
unfolding cost base
asc_end b = omega arith

last_char :
    (s : Set) (c : ℕ) (t : List ℕ) → c < 128 → unfinished s ≡ false → t ≡ [] → Leads false 1 (in_c40 s) (c ∷ t) (one (suc c) in_ascii t)
unfolding odd
last_char s c t l h e =
    rw e (record { bound = asc_end false; chars = tt; bytes = (omega arith, tt); reads = λ ws q. read_last s c h l ws q })

go_lone : (b : Bool) (s : Set) (t : List ℕ) → Chars t → Bound b (in_c40 s) (odd 1) t 1 → Leads b 1 (in_c40 s) t (move b 1 (in_c40 s) t)
unfolding move odd
go_lone true s [] hs h = go_back true s 0 [] hs (finished_end true s true 1 h) (asc_end true)
go_lone false s [] hs h = go_back false s 0 [] hs (finished_end false s true 1 h) (asc_end false)
go_lone true s (c ∷ t) hs h = let e : true ≡ false = (fin_zero true t (at_one true s c t h).1).1 in clash cc
go_lone false s (c ∷ t) hs h = last_char s c t hs.0 (at_one false s c t h).0 (fin_zero false t (at_one false s c t h).1).0

-- C40 mode, two codewords or more: where 254 will not do
no_fin :
    (b : Bool) (c : ℕ) (t : List ℕ) (q : Bool) (n : ℕ) → n < 2000 → (q ≡ true → 1 ≤ n) → cost b t fin (not q) ≤ suc n →
    suc n < cost b (c ∷ t) asc (not q) → ⊥
unfolding cost base before chars
no_fin true c [] true n s p h g = let l = p refl in omega arith
no_fin false c [] true n s p h g = let l = p refl in omega arith
no_fin b c [] false n s p h g = omega arith
no_fin b c (d ∷ t) q n s p h g = omega arith

no_fin_end :
    (b q : Bool) (n : ℕ) → n < 2000 → (cost b [] d0 q ≤ suc (suc n)) ⊎ (cost b [] fil q ≤ suc (suc n)) →
    suc n < cost b [] asc (not q) → ⊥
unfolding cost base
no_fin_end b true n s h g = omega arith
no_fin_end true false n s (inl h) g = omega arith
no_fin_end true false n s (inr h) g = omega arith
no_fin_end false false n s h g = omega arith

module _ (b : Bool) (c : ℕ) (t : List ℕ) (q : Bool) (n : ℕ) (small : n < 2000) (pos : q ≡ true → 1 ≤ n)
    (g : suc n < cost b (c ∷ t) asc (not q)) where
  above_fin : suc n < cost b t fin (not q)
  above_fin = go (leb (cost b t fin (not q)) (suc n)) refl
    where
      go : (x : Bool) → leb (cost b t fin (not q)) (suc n) ≡ x → suc n < cost b t fin (not q)
      go true e = absurd (no_fin b c t q n small pos (leb-true _ _ e) g)
      go false e = leb-false _ _ e

  must_pair : cost b (c ∷ t) d0 q ≤ suc (suc n) → forms (set_of c) (cost b t d1 q) (cost b t d2 q) ≤ 2 + n
  unfolding cost before pairs
  must_pair h = omega (arith, above_fin)

  no_fil : cost b (c ∷ t) fil q ≤ suc (suc n) → ⊥
  unfolding cost before
  no_fil h = omega (arith, above_fin)

own_two : (f : List ℕ → ℕ) (s : Set) (t : List ℕ) (n : ℕ) → Own f s t (suc (suc n)) → Own f s t (2 + n)
own_two f s [] n o = o
own_two f s (c ∷ t) n o = (o.0, omega (arith, o.1))

no_return :
    (b : Bool) (s : Set) (t : List ℕ) (q : Bool) (n : ℕ) → n < 2000 → (q ≡ true → 1 ≤ n) → Bound b (in_c40 s) q t (suc (suc n)) →
    not (unfinished s) && leb (cost b t asc (not q)) (suc n) ≡ false → Pure0 b q (2 + n) s t
unfolding unfinished
no_return b Basic [] q n s p h e = absurd (no_fin_end b q n s (inl h) (leb-false _ _ e))
no_return b Basic (c ∷ t) q n s p h e = must_pair b c t q n s p (leb-false _ _ e) h
no_return b Set1 t q n s p (inl o) e = own_two (C d1 b q) Set1 t n o
no_return b Set1 [] q n s p (inr l) e = absurd (no_fin_end b q n s (inr l) (leb-false _ _ e))
no_return b Set1 (c ∷ t) q n s p (inr l) e = absurd (no_fil b c t q n s p (leb-false _ _ e) l)
no_return b Set2 t q n s p o e = own_two (C d1 b q) Set2 t n o
no_return b Set3 t q n s p o e = own_two (C d1 b q) Set3 t n o

not_and : (x y : Bool) → not x && y ≡ true → (x ≡ false) × (y ≡ true)
not_and true y e = (cc, cc)
not_and false y e = (refl, e)

go_c40 :
    (b : Bool) (s : Set) (n : ℕ) (t : List ℕ) → n < 2000 → Chars t → Bound b (in_c40 s) (odd (suc (suc n))) t (suc (suc n)) →
    Leads b (suc (suc n)) (in_c40 s) t (move b (suc (suc n)) (in_c40 s) t)
unfolding move odd
go_c40 b s n t l hs h = go (not (unfinished s) && fits b t asc (suc n)) refl
  where
    by_pair : GoPair b n s t → Leads b (suc (suc n)) (in_c40 s) t (pair b n s t)
    by_pair G = rw G.is (record { bound = G.leads; chars = G.chars; bytes = G.bytes; reads = G.reads })

    go :
        (x : Bool) → not (unfinished s) && fits b t asc (suc n) ≡ x →
        Leads b (suc (suc n)) (in_c40 s) t (pick x (one 254 in_ascii t) (pair b n s t))
    go true e = let z = not_and (unfinished s) (fits b t asc (suc n)) e in go_back b s (suc n) t hs z.0 (leb-true _ _ z.1)
    go false e = by_pair (go_pair b n l s t hs (no_return b s t (odd n) n l (odd_pos n) (rw (not-not (odd n)) at h) e))

-- EVERY MOVE LEADS ON
pub go_move :
    (b : Bool) (n : ℕ) (m : Mode) (t : List ℕ) → n < 2000 → Chars t → Bound b m (odd (suc n)) t (suc n) →
    Leads b (suc n) m t (move b (suc n) m t)
go_move b n in_ascii t l hs h = go_ascii b n l t hs h
go_move b zero (in_c40 s) t l hs h = go_lone b s t hs h
go_move b (suc n) (in_c40 s) t l hs h = go_c40 b s n t (omega arith) hs h

-- what may stand behind the codewords: nothing, or a pad and whatever follows it
abbrev pub Rest : Bool → List ℕ → Type 0
Rest false r = r ≡ []
Rest true [] = ⊥
Rest true (w ∷ r) = w ≡ 129

-- nothing left to write
zero_chars :
    (b : Bool) (c : ℕ) (t : List ℕ) (p : Bool) →
    (1 ≤ cost b (c ∷ t) asc p) × (1 ≤ cost b (c ∷ t) d0 p) × (1 ≤ cost b (c ∷ t) fil p)
unfolding cost before pairs
zero_chars b c t p = (omega (arith, one_at_least b c t p), omega (arith, forms_two b c t p), omega arith)

at_zero : (b : Bool) (m : Mode) (t : List ℕ) → Bound b m (odd 0) t 0 → (r : List ℕ) → Rest b r → read r m (length t) ≡ good t 0 b
unfolding odd read cost base ascii unfinished
at_zero false in_ascii [] h r e = rw e
at_zero true in_ascii [] h [] e = absurd e
at_zero true in_ascii [] h (w ∷ r) e = rw e
at_zero b in_ascii (c ∷ t) h r e = absurd (omega (arith, (zero_chars b c t false).0))
at_zero false (in_c40 Basic) [] h r e = rw e
at_zero false (in_c40 Set1) [] h r e = rw e
at_zero false (in_c40 Set2) [] h r e = absurd h
at_zero false (in_c40 Set3) [] h r e = absurd h
at_zero true (in_c40 Basic) [] h r e = absurd (omega arith)
at_zero true (in_c40 Set1) [] (inl o) r e = absurd o
at_zero true (in_c40 Set1) [] (inr l) r e = absurd (omega arith)
at_zero true (in_c40 Set2) [] h r e = absurd h
at_zero true (in_c40 Set3) [] h r e = absurd h
at_zero b (in_c40 Basic) (c ∷ t) h r e = absurd (omega (arith, (zero_chars b c t false).1))
at_zero b (in_c40 Set1) (c ∷ t) (inl o) r e = absurd (omega (arith, (two_at_least b t false).0, o.1))
at_zero b (in_c40 Set1) (c ∷ t) (inr l) r e = absurd (omega (arith, (zero_chars b c t false).2))
at_zero b (in_c40 Set2) (c ∷ t) o r e = absurd (omega (arith, (two_at_least b t false).0, o.1))
at_zero b (in_c40 Set3) (c ∷ t) o r e = absurd (omega (arith, (two_at_least b t false).0, o.1))

-- THE WRITER'S CODEWORDS are bytes, as many as asked for, and read as the text
pub record Written (b : Bool) (n : ℕ) (m : Mode) (t ws : List ℕ) : Type 0 where
  pub reads : (r : List ℕ) → Rest b r → read (ws ++ r) m (length t) ≡ good t n b
  pub count : length ws ≡ n
  pub bytes : Bytes ws

run_one : (b : Bool) (m : Mode) (t : List ℕ) (x : Move) → Leads b 1 m t x → Written b 1 m t (run x (λ m t. []) (λ m t. []))
run_one b m t (one w m' t') g =
    record { reads = λ r e. g.reads r (at_zero b m' t' g.bound r e); count = refl; bytes = g.bytes }
run_one b m t (two v w m' t') g = absurd g
run_one b m t none g = absurd g

module _ (b : Bool) (n : ℕ) (m : Mode) (t : List ℕ) where
  after_one :
      (w : ℕ) (m' : Mode) (t' ws : List ℕ) → Leads b (suc (suc n)) m t (one w m' t') → Written b (suc n) m' t' ws →
      Written b (suc (suc n)) m t (w ∷ ws)
  after_one w m' t' ws g i =
      record { reads = λ r e. g.reads (ws ++ r) (i.reads r e); count = ap suc i.count; bytes = (g.bytes.0, i.bytes) }

  after_two :
      (v w : ℕ) (m' : Mode) (t' ws : List ℕ) → Leads b (suc (suc n)) m t (two v w m' t') → Written b n m' t' ws →
      Written b (suc (suc n)) m t (v ∷ w ∷ ws)
  after_two v w m' t' ws g i =
      record {
        reads = λ r e. g.reads (ws ++ r) (i.reads r e);
        count = ap (λ k. suc (suc k)) i.count;
        bytes = (g.bytes.0, (g.bytes.1.0, i.bytes));
      }

  run_more :
      (x : Move) (k₁ k₂ : Mode → List ℕ → List ℕ) → Leads b (suc (suc n)) m t x →
      ((m : Mode) (t : List ℕ) → Chars t → Bound b m (odd (suc n)) t (suc n) → Written b (suc n) m t (k₁ m t)) →
      ((m : Mode) (t : List ℕ) → Chars t → Bound b m (odd n) t n → Written b n m t (k₂ m t)) → Written b (suc (suc n)) m t (run x k₁ k₂)
  run_more (one w m' t') k₁ k₂ g i₁ i₂ = after_one w m' t' (k₁ m' t') g (i₁ m' t' g.chars g.bound)
  run_more (two v w m' t') k₁ k₂ g i₁ i₂ = after_two v w m' t' (k₂ m' t') g (i₂ m' t' g.chars g.bound)
  run_more none k₁ k₂ g i₁ i₂ = absurd g

pub attain : (b : Bool) (n : ℕ) (m : Mode) (t : List ℕ) → n < 2000 → Chars t → Bound b m (odd n) t n → Written b n m t (write b n m t)
unfolding write
attain b zero m t l hs h = record { reads = λ r e. at_zero b m t h r e; count = refl; bytes = tt }
attain b (suc zero) m t l hs h = run_one b m t (move b 1 m t) (go_move b 0 m t (omega arith) hs h)
attain b (suc (suc n)) m t l hs h =
    run_more b n m t (move b (suc (suc n)) m t) (write b (suc n)) (write b n) (go_move b (suc n) m t (omega arith) hs h)
    (λ m t hs h. attain b (suc n) m t (omega arith) hs h) (λ m t hs h. attain b n m t (omega arith) hs h)
