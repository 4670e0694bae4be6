-- The codewords before the first pad are all of them where there is no pad, and fewer where there is one: each step of the
-- reading keeps this, with any room.
-- Assumes nothing.
use Prim.Native.Nat.{ℕ, zero, suc, ◌<◌}
use mathlib.Core.Bool.{Bool, true, false}
use mathlib.Core.List.{List, [], ◌∷◌}
use mathlib.Core.Path.{◌≡◌, refl, ap}
use native.Mathlib.Omega.{arith}
use lib.Dec.{eqb}
use lib.ListN.{length}
use Rattle.std.specs.Prelude.{Option, Some, None}
use Rattle.refusal.specs.Pick.{pick}
use Rattle.refusal.proofs.Tests.{clash}
use Rattle.codeword.specs.declared.Set.{Set}
use Rattle.codeword.specs.declared.Set.TheVariants.{Basic}
use Rattle.codeword.specs.declared.Value.{Value}
use Rattle.codeword.specs.declared.Value.TheVariants.{Char, Shift, Unused}
use Rattle.codeword.specs.declared.Ascii.{Ascii}
use Rattle.codeword.specs.declared.Ascii.TheVariants.{One, Two, Latch, Pad, Wrong}
use Rattle.codeword.specs.declared.Lone.{Lone}
use Rattle.codeword.specs.declared.Lone.TheVariants.{Ends, Last, Bad}
use Rattle.codeword.specs.Meanings.{ascii, lone, pair, value, unfinished}
use Rattle.codeword.specs.Reading.{Reading, good, refused, cons, Step, end, refuse, behind, give, put, finish, on_ascii, on_lone, on_pair, Mode, in_ascii, in_c40, read}
use Rattle.optimum.proofs.Accepted.{Ticked, from_tick, ticked}

abbrev pub Len : (padded : Bool) → ℕ → ℕ → Type 0
Len false n l = n ≡ l
Len true n l = n < l

abbrev Has : ℕ → Step → Type 0
Has l o = (r : ℕ) (t : List ℕ) (n : ℕ) (b : Bool) → o r ≡ good t n b → Len b n l

has_end : (l n : ℕ) (b : Bool) → Len b n l → Has l (end n b)
has_end l n' b' h r t n b e =
    let p : n ≡ n' = cc in
    let q : b ≡ b' = cc in
    rw (p, q) h

has_none : (l k : ℕ) → Has l (refuse k)
has_none l k r t n b e = clash cc

has_pick : {l : ℕ} (x : Bool) {a o : Step} → Has l a → Has l o → Has l (pick x a o)
has_pick true h g = h
has_pick false h g = g

has_give : {l : ℕ} (c : ℕ) {o : Step} → Has l o → Has l (give c o)
has_give c h zero t n b e = clash cc
has_give {l} c {o} h (suc r) t n b e = go (o r) refl e
  where
    go : (y : Reading) → o r ≡ y → cons c y ≡ good t n b → Len b n l
    go (refused k p) q e = clash cc
    go (good t' n' b') q e = h r t' n b (cc)

suc_len : (b : Bool) (n l : ℕ) → Len b n l → Len b (suc n) (suc l)
suc_len false n l h = ap suc h
suc_len true n l h = omega arith

has_behind : {l : ℕ} {o : Step} → Has l o → Has (suc l) (behind o)
has_behind {l} {o} h r t n b e = go (from_tick (o r) t n b e)
  where
    go : Ticked (o r) t n b → Len b n (suc l)
    go (ticked n' p q) = rw p (suc_len b n' l (h r t n' b q))

has_put : {l : ℕ} (v : Value) {k : Set → Step} → ((s : Set) → Has l (k s)) → Has l (put v k)
has_put (Char c) h = has_give c (h Basic)
has_put (Shift s) h = h s
has_put {l} Unused h = has_none l _

has_finish : {l : ℕ} (s : Set) {o : Step} → Has l o → Has l (finish s o)
has_finish {l} s h = has_pick (unfinished s) (has_none l _) h

has_ascii : {l : ℕ} (x : Ascii) {a c : Step} → Has l a → Has l c → Has (suc l) (on_ascii x a c)
has_ascii (One c) ha hc = has_give c (has_behind ha)
has_ascii (Two c d) ha hc = has_give c (has_give d (has_behind ha))
has_ascii Latch ha hc = has_behind hc
has_ascii {l} Pad ha hc = has_end (suc l) 0 true (omega arith)
has_ascii {l} Wrong ha hc = has_none (suc l) _

has_lone : (x : Lone) → Has 1 (on_lone x)
has_lone Ends = has_end 1 1 false refl
has_lone (Last c) = has_give c (has_end 1 1 false refl)
has_lone Bad = has_none 1 _

has_pair : {l : ℕ} (x : Option (ℕ × ℕ × ℕ)) (s : Set) {k : Set → Step} → ((s : Set) → Has l (k s)) → Has (suc (suc l)) (on_pair x s k)
has_pair (Some (x, y, z)) s h =
    has_put (value s x) λ s₁. has_put (value s₁ y) λ s₂. has_put (value s₂ z) λ s₃. has_behind (has_behind (h s₃))
has_pair {l} None s h = has_none (suc (suc l)) _

pub counted : (ws : List ℕ) (m : Mode) → Has (length ws) (read ws m)
unfolding read
counted [] in_ascii = has_end 0 0 false refl
counted [] (in_c40 s) = has_finish s (has_end 0 0 false refl)
counted (w ∷ ws) in_ascii = has_ascii (ascii w) (counted ws in_ascii) (counted ws (in_c40 Basic))
counted (a ∷ []) (in_c40 s) = has_finish s (has_lone (lone a))
counted (a ∷ b ∷ ws) (in_c40 s) =
    has_pick (eqb a 254) (has_finish s (has_behind (counted (b ∷ ws) in_ascii))) (has_pair (pair a b) s (λ s'. counted ws (in_c40 s')))
