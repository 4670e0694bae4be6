-- An accepted text fits in the room that it was accepted with, and is accepted with any room that it fits in: each step of the
-- reading keeps this.
-- Assumes nothing.
use Prim.Native.Nat.{ℕ, zero, suc, ◌≤◌}
use mathlib.Core.Bool.{Bool, true, false}
use mathlib.Core.List.{List, [], ◌∷◌}
use mathlib.Core.Path.{◌≡◌, refl, ap, ◌∙◌}
use native.Mathlib.Omega.{arith}
use lib.Dec.{eqb}
use lib.ListN.{length}
use Rattle.std.specs.Prelude.{Option, Some, None}
use Rattle.refusal.specs.Pick.{pick}
use Rattle.refusal.proofs.Tests.{clash}
use Rattle.codeword.specs.declared.Set.{Set}
use Rattle.codeword.specs.declared.Set.TheVariants.{Basic}
use Rattle.codeword.specs.declared.Value.{Value}
use Rattle.codeword.specs.declared.Value.TheVariants.{Char, Shift, Unused}
use Rattle.codeword.specs.declared.Ascii.{Ascii}
use Rattle.codeword.specs.declared.Ascii.TheVariants.{One, Two, Latch, Pad, Wrong}
use Rattle.codeword.specs.declared.Lone.{Lone}
use Rattle.codeword.specs.declared.Lone.TheVariants.{Ends, Last, Bad}
use Rattle.codeword.specs.Meanings.{ascii, lone, pair, value, unfinished}
use Rattle.codeword.specs.Reading.{Reading, good, refused, cons, tick, Step, end, refuse, behind, give, put, finish, on_ascii, on_lone, on_pair, Mode, in_ascii, in_c40, read}

abbrev More : Step → List ℕ → ℕ → Bool → Type 0
More o t n b = (r : ℕ) → length t ≤ r → o r ≡ good t n b

abbrev pub Roomy : Step → Type 0
Roomy o = (r : ℕ) (t : List ℕ) (n : ℕ) (b : Bool) → o r ≡ good t n b → (length t ≤ r) × More o t n b

in_end : (n : ℕ) (b : Bool) → Roomy (end n b)
in_end n' b' r t n b e = let p : t ≡ [] = cc in (rw p (omega arith), λ r' h. e)

in_refuse : (k : ℕ) → Roomy (refuse k)
in_refuse k r t n b e = clash cc

in_pick : (x : Bool) {a o : Step} → Roomy a → Roomy o → Roomy (pick x a o)
in_pick true h g = h
in_pick false h g = g

in_behind : {o : Step} → Roomy o → Roomy (behind o)
in_behind {o} h r t n b e = go (o r) refl e
  where
    go : (y : Reading) → o r ≡ y → tick y ≡ good t n b → (length t ≤ r) × More (behind o) t n b
    go (refused k p) q e = clash cc
    go (good t' n' b') q e =
        let p : t ≡ t' = cc in
        let g = h r t' n' b' q in
        (rw p g.0, λ r' l. ap tick (g.1 r' (rw p at l)) ∙ e)

in_give : (c : ℕ) {o : Step} → Roomy o → Roomy (give c o)
in_give c h zero t n b e = clash cc
in_give c {o} h (suc r) t n b e = go (o r) refl e
  where
    more :
        (t' : List ℕ) (n' : ℕ) (b' : Bool) → More o t' n' b' → good (c ∷ t') n' b' ≡ good t n b → (r' : ℕ) → suc (length t') ≤ r' →
        give c o r' ≡ good t n b
    more t' n' b' g e zero l = absurd (omega arith)
    more t' n' b' g e (suc r') l = ap (cons c) (g r' (omega arith)) ∙ e

    go : (y : Reading) → o r ≡ y → cons c y ≡ good t n b → (length t ≤ suc r) × More (give c o) t n b
    go (refused k p) q e = clash cc
    go (good t' n' b') q e =
        let p : t ≡ c ∷ t' = cc in
        let g = h r t' n' b' q in
        (rw p (omega (arith, g.0)), λ r' l. more t' n' b' g.1 e r' (rw p at l))

in_put : (v : Value) {k : Set → Step} → ((s : Set) → Roomy (k s)) → Roomy (put v k)
in_put (Char c) h = in_give c (h Basic)
in_put (Shift s) h = h s
in_put Unused h = in_refuse _

in_finish : (s : Set) {o : Step} → Roomy o → Roomy (finish s o)
in_finish s h = in_pick (unfinished s) (in_refuse _) h

in_ascii_law : (x : Ascii) {a l : Step} → Roomy a → Roomy l → Roomy (on_ascii x a l)
in_ascii_law (One c) ha hl = in_give c (in_behind ha)
in_ascii_law (Two c d) ha hl = in_give c (in_give d (in_behind ha))
in_ascii_law Latch ha hl = in_behind hl
in_ascii_law Pad ha hl = in_end 0 true
in_ascii_law Wrong ha hl = in_refuse _

in_lone : (x : Lone) → Roomy (on_lone x)
in_lone Ends = in_end 1 false
in_lone (Last c) = in_give c (in_end 1 false)
in_lone Bad = in_refuse _

in_pair : (x : Option (ℕ × ℕ × ℕ)) (s : Set) {k : Set → Step} → ((s : Set) → Roomy (k s)) → Roomy (on_pair x s k)
in_pair (Some (x, y, z)) s h =
    in_put (value s x) λ s₁. in_put (value s₁ y) λ s₂. in_put (value s₂ z) λ s₃. in_behind (in_behind (h s₃))
in_pair None s h = in_refuse _

pub roomy : (ws : List ℕ) (m : Mode) → Roomy (read ws m)
unfolding read
roomy [] in_ascii = in_end 0 false
roomy [] (in_c40 s) = in_finish s (in_end 0 false)
roomy (w ∷ ws) in_ascii = in_ascii_law (ascii w) (roomy ws in_ascii) (roomy ws (in_c40 Basic))
roomy (a ∷ []) (in_c40 s) = in_finish s (in_lone (lone a))
roomy (a ∷ b ∷ ws) (in_c40 s) =
    in_pick (eqb a 254) (in_finish s (in_behind (roomy (b ∷ ws) in_ascii))) (in_pair (pair a b) s (λ s'. roomy ws (in_c40 s')))
