-- What stands behind the first pad is not read: any codewords behind a 129 there give the same reading. And the first pad is a 129. Each
-- step keeps this.
-- Assumes nothing.
use Prim.Native.Nat.{ℕ, zero, suc, ◌+◌, ◌-◌, ◌/◌, ◌%◌}
use mathlib.Core.Bool.{Bool, true, false}
use mathlib.Core.List.{List, [], ◌∷◌, ◌++◌}
use mathlib.Core.Path.{◌≡◌, refl, ap, ◌∙◌}
use lib.Dec.{leb, eqb}
use lib.ListN.{take, get_or}
use borrow.Author.Tests.{eqb-true}
use Rattle.std.specs.Prelude.{Option, Some, None}
use Rattle.refusal.specs.Pick.{pick}
use Rattle.refusal.proofs.Tests.{clash}
use Rattle.codeword.specs.declared.Set.{Set}
use Rattle.codeword.specs.declared.Set.TheVariants.{Basic}
use Rattle.codeword.specs.declared.Value.{Value}
use Rattle.codeword.specs.declared.Value.TheVariants.{Char, Shift, Unused}
use Rattle.codeword.specs.declared.Ascii.{Ascii}
use Rattle.codeword.specs.declared.Ascii.TheVariants.{One, Two, Latch, Pad, Wrong}
use Rattle.codeword.specs.declared.Lone.{Lone}
use Rattle.codeword.specs.declared.Lone.TheVariants.{Ends, Last, Bad}
use Rattle.codeword.specs.Meanings.{ascii, lone, pair, value, unfinished}
use Rattle.codeword.specs.Reading.{Reading, good, refused, cons, tick, Step, end, refuse, behind, give, put, finish, on_ascii, on_lone, on_pair, Mode, in_ascii, in_c40, read}

-- with n codewords before the first pad, the second reading gives what the first gives
abbrev Same : ℕ → Step → Step → Type 0
Same n o o' = (r : ℕ) (t : List ℕ) → o r ≡ good t n true → o' r ≡ good t n true

-- where it gives a text with n codewords before a pad, so and so holds
abbrev Gives : ℕ → Step → Type 0 → Type 0
Gives n o P = (r : ℕ) (t : List ℕ) → o r ≡ good t n true → P

-- and here nothing but falsehood: it never does
abbrev Never : ℕ → Step → Type 0
Never n o = Gives n o (◌≡◌ {A = ℕ} 0 1)

same_never : {n : ℕ} {o : Step} (o' : Step) → Never n o → Same n o o'
same_never o' h r t e = clash (h r t e)

-- WHAT HOLDS WHERE IT GIVES
module _ {P : Type 0} where
  gives_end : (n k : ℕ) → Gives n (end k false) P
  gives_end n k r t e = clash cc

  gives_refuse : (n k : ℕ) → Gives n (refuse k) P
  gives_refuse n k r t e = clash cc

  gives_pick : {n : ℕ} (x : Bool) {a o : Step} → Gives n a P → Gives n o P → Gives n (pick x a o) P
  gives_pick true h g = h
  gives_pick false h g = g

  gives_finish : {n : ℕ} (s : Set) {o : Step} → Gives n o P → Gives n (finish s o) P
  gives_finish {n} s h = gives_pick (unfinished s) (gives_refuse n _) h

  gives_give : {n : ℕ} (c : ℕ) {o : Step} → Gives n o P → Gives n (give c o) P
  gives_give c h zero t e = clash cc
  gives_give {n} c {o} h (suc r) t e = go (o r) refl e
    where
      go : (y : Reading) → o r ≡ y → cons c y ≡ good t n true → P
      go (refused k p) q e = clash cc
      go (good t' n' b') q e = h r t' (cc)

  gives_first : (o : Step) → Gives 0 (behind o) P
  gives_first o r t e = go (o r) e
    where
      go : (y : Reading) → tick y ≡ good t 0 true → P
      go (refused k p) e = clash cc
      go (good t' n' b') e = clash cc

  gives_behind : {n : ℕ} {o : Step} → Gives n o P → Gives (suc n) (behind o) P
  gives_behind {n} {o} h r t e = go (o r) refl e
    where
      go : (y : Reading) → o r ≡ y → tick y ≡ good t (suc n) true → P
      go (refused k p) q e = clash cc
      go (good t' n' b') q e = h r t (cc)

  gives_put : {n : ℕ} (v : Value) {k : Set → Step} → ((s : Set) → Gives n (k s) P) → Gives n (put v k) P
  gives_put (Char c) h = gives_give c (h Basic)
  gives_put (Shift s) h = h s
  gives_put {n} Unused h = gives_refuse n _

  gives_lone : (n : ℕ) (x : Lone) → Gives n (on_lone x) P
  gives_lone n Ends = gives_end n 1
  gives_lone n (Last c) = gives_give c (gives_end n 1)
  gives_lone n Bad = gives_refuse n _

  gives_ascii : {n : ℕ} (x : Ascii) {a l : Step} → Gives n a P → Gives n l P → Gives (suc n) (on_ascii x a l) P
  gives_ascii (One c) ha hl = gives_give c (gives_behind ha)
  gives_ascii (Two c d) ha hl = gives_give c (gives_give d (gives_behind ha))
  gives_ascii Latch ha hl = gives_behind hl
  gives_ascii Pad ha hl = λ r t e. clash cc
  gives_ascii {n} Wrong ha hl = gives_refuse (suc n) _

  gives_values : {n : ℕ} (x : Option (ℕ × ℕ × ℕ)) (s : Set) (k : Set → Step) → ((s : Set) → Gives n (behind (behind (k s))) P) → Gives n (on_pair x s k) P
  gives_values (Some (x, y, z)) s k h = gives_put (value s x) λ s₁. gives_put (value s₁ y) λ s₂. gives_put (value s₂ z) h
  gives_values {n} None s k h = gives_refuse n _

-- SAME
same_end : (n k : ℕ) (b : Bool) → Same n (end k b) (end k b)
same_end n k b r t e = e

same_refuse : (n k : ℕ) → Same n (refuse k) (refuse k)
same_refuse n k r t e = e

same_pick : {n : ℕ} (x : Bool) {a a' o o' : Step} → Same n a a' → Same n o o' → Same n (pick x a o) (pick x a' o')
same_pick true h g = h
same_pick false h g = g

same_finish : {n : ℕ} (s : Set) {o o' : Step} → Same n o o' → Same n (finish s o) (finish s o')
same_finish {n} s h = same_pick (unfinished s) (same_refuse n _) h

same_give : {n : ℕ} (c : ℕ) {o o' : Step} → Same n o o' → Same n (give c o) (give c o')
same_give c h zero t e = e
same_give {n} c {o} {o'} h (suc r) t e = go (o r) refl e
  where
    go : (y : Reading) → o r ≡ y → cons c y ≡ good t n true → cons c (o' r) ≡ good t n true
    go (refused k p) q e = clash cc
    go (good t' n' b') q e = ap (cons c) (h r t' (cc)) ∙ (cc)

same_behind : {n : ℕ} {o o' : Step} → Same n o o' → Same (suc n) (behind o) (behind o')
same_behind {n} {o} {o'} h r t e = go (o r) refl e
  where
    go : (y : Reading) → o r ≡ y → tick y ≡ good t (suc n) true → tick (o' r) ≡ good t (suc n) true
    go (refused k p) q e = clash cc
    go (good t' n' b') q e = ap tick (h r t (cc))

same_put : {n : ℕ} (v : Value) {k k' : Set → Step} → ((s : Set) → Same n (k s) (k' s)) → Same n (put v k) (put v k')
same_put (Char c) h = same_give c (h Basic)
same_put (Shift s) h = h s
same_put {n} Unused h = same_refuse n _

same_ascii : {n : ℕ} (x : Ascii) {a a' l l' : Step} → Same n a a' → Same n l l' → Same (suc n) (on_ascii x a l) (on_ascii x a' l')
same_ascii (One c) ha hl = same_give c (same_behind ha)
same_ascii (Two c d) ha hl = same_give c (same_give d (same_behind ha))
same_ascii Latch ha hl = same_behind hl
same_ascii {n} Pad ha hl = same_end (suc n) 0 true
same_ascii {n} Wrong ha hl = same_refuse (suc n) _

first_pad : (x : Ascii) (a l : Step) → Same 0 (on_ascii x a l) (end 0 true)
first_pad (One c) a l = same_never _ (gives_give c (gives_first a))
first_pad (Two c d) a l = same_never _ (gives_give c (gives_give d (gives_first a)))
first_pad Latch a l = same_never _ (gives_first l)
first_pad Pad a l = same_end 0 0 true
first_pad Wrong a l = same_never _ (gives_refuse 0 _)

same_pair : {n : ℕ} (x : Option (ℕ × ℕ × ℕ)) (s : Set) {k k' : Set → Step} → ((s : Set) → Same n (k s) (k' s)) → Same (suc (suc n)) (on_pair x s k) (on_pair x s k')
same_pair (Some (x, y, z)) s h =
    same_put (value s x) λ s₁. same_put (value s₁ y) λ s₂. same_put (value s₂ z) λ s₃. same_behind (same_behind (h s₃))
same_pair {n} None s h = same_refuse (suc (suc n)) _

-- THE FIRST n CODEWORDS, and a pad behind them
pub cut : (ws : List ℕ) (m : Mode) (n : ℕ) (ps : List ℕ) → Same n (read ws m) (read (take n ws ++ (129 ∷ ps)) m)
unfolding read ascii
cut [] in_ascii n ps = same_never _ (gives_end n 0)
cut [] (in_c40 s) n ps = same_never _ (gives_finish s (gives_end n 0))
cut (w ∷ ws) in_ascii zero ps = first_pad (ascii w) (read ws in_ascii) (read ws (in_c40 Basic))
cut (w ∷ ws) in_ascii (suc n) ps = same_ascii (ascii w) (cut ws in_ascii n ps) (cut ws (in_c40 Basic) n ps)
cut (a ∷ []) (in_c40 s) n ps = same_never _ (gives_finish s (gives_lone n (lone a)))
cut (a ∷ b ∷ ws) (in_c40 s) zero ps =
    same_never _
    (gives_pick (eqb a 254) (gives_finish s (gives_first (read (b ∷ ws) in_ascii)))
    (gives_values (pair a b) s (λ s'. read ws (in_c40 s')) (λ s'. gives_first (behind (read ws (in_c40 s'))))))
cut (a ∷ b ∷ ws) (in_c40 s) (suc zero) ps =
    same_pick (eqb a 254) (same_finish s (same_behind (cut (b ∷ ws) in_ascii 0 ps)))
    (same_never _ (gives_values (pair a b) s (λ s'. read ws (in_c40 s')) (λ s'. gives_behind (gives_first (read ws (in_c40 s'))))))
cut (a ∷ b ∷ ws) (in_c40 s) (suc (suc n)) ps =
    same_pick (eqb a 254) (same_finish s (same_behind (cut (b ∷ ws) in_ascii (suc n) ps)))
    (same_pair (pair a b) s (λ s'. cut ws (in_c40 s') n ps))

-- THE FIRST PAD is the 129 at which the reading stops
pad_is : (w : ℕ) → ascii w ≡ Pad → w ≡ 129
unfolding ascii
pad_is w e =
    eqb-true w 129
    (go (eqb w 0) (leb w 128) (eqb w 129) (leb w 229) (eqb w 230) (w - 1) (48 + (w - 130) / 10) (48 + (w - 130) % 10) e)
  where
    go :
        (p q r s u : Bool) (c d f : ℕ) → pick p Wrong (pick q (One c) (pick r Pad (pick s (Two d f) (pick u Latch Wrong)))) ≡ Pad → r ≡ true
    go true q r s u c d f e = clash cc
    go false true r s u c d f e = clash cc
    go false false true s u c d f e = refl
    go false false false true u c d f e = clash cc
    go false false false false true c d f e = clash cc
    go false false false false false c d f e = clash cc

stops_at : (w : ℕ) (x : Ascii) (a l : Step) → ascii w ≡ x → Gives 0 (on_ascii x a l) (w ≡ 129)
stops_at w (One c) a l q = gives_give c (gives_first a)
stops_at w (Two c d) a l q = gives_give c (gives_give d (gives_first a))
stops_at w Latch a l q = gives_first l
stops_at w Pad a l q = λ r t e. pad_is w q
stops_at w Wrong a l q = gives_refuse 0 _

pub marked : (ws : List ℕ) (m : Mode) (n : ℕ) → Gives n (read ws m) (get_or ws n 0 ≡ 129)
unfolding read
marked [] in_ascii n = gives_end n 0
marked [] (in_c40 s) n = gives_finish s (gives_end n 0)
marked (w ∷ ws) in_ascii zero = stops_at w (ascii w) (read ws in_ascii) (read ws (in_c40 Basic)) refl
marked (w ∷ ws) in_ascii (suc n) = gives_ascii (ascii w) (marked ws in_ascii n) (marked ws (in_c40 Basic) n)
marked (a ∷ []) (in_c40 s) n = gives_finish s (gives_lone n (lone a))
marked (a ∷ b ∷ ws) (in_c40 s) zero =
    gives_pick (eqb a 254) (gives_finish s (gives_first (read (b ∷ ws) in_ascii)))
    (gives_values (pair a b) s (λ s'. read ws (in_c40 s')) (λ s'. gives_first (behind (read ws (in_c40 s')))))
marked (a ∷ b ∷ ws) (in_c40 s) (suc zero) =
    gives_pick (eqb a 254) (gives_finish s (gives_behind (marked (b ∷ ws) in_ascii 0)))
    (gives_values (pair a b) s (λ s'. read ws (in_c40 s')) (λ s'. gives_behind (gives_first (read ws (in_c40 s')))))
marked (a ∷ b ∷ ws) (in_c40 s) (suc (suc n)) =
    gives_pick (eqb a 254) (gives_finish s (gives_behind (marked (b ∷ ws) in_ascii (suc n))))
    (gives_values (pair a b) s (λ s'. read ws (in_c40 s')) (λ s'. gives_behind (gives_behind (marked ws (in_c40 s') n))))
