-- What a value of C40 tells: a character's value stands in the character's set and is its number there; a shift stands in the
-- basic set alone, leads to another set and has that set's number. Computed tests over the 40 values of the 4 sets.
-- Assumes nothing.
use Prim.Native.Nat.{ℕ, ◌≤◌, ◌<◌}
use mathlib.Core.Bool.{Bool, true, false, ◌&&◌}
use mathlib.Core.List.{List, [], ◌∷◌}
use mathlib.Core.Path.{◌≡◌, refl, ap, sym, subst, ◌∙◌}
use lib.Dec.{T, ltb, leb, eqb, eqb→eq, leb→le}
use Rattle.refusal.specs.Pick.{pick}
use Rattle.refusal.proofs.Tests.{below, at_below}
use Rattle.codeword.specs.declared.Set.{Set}
use Rattle.codeword.specs.declared.Set.TheVariants.{Basic, Set1, Set2, Set3}
use Rattle.codeword.specs.declared.Value.{Value}
use Rattle.codeword.specs.declared.Value.TheVariants.{Char, Shift, Unused}
use Rattle.codeword.specs.Meanings.{value}
use Rattle.codeword.specs.Characters.{set_of, number_of}
use Rattle.optimum.proofs.Edge.{Shifted}

-- a text of characters 0 to 127
abbrev pub Chars : List ℕ → Type 0
Chars [] = Unit {0}
Chars (c ∷ t) = (c < 128) × Chars t

-- codewords that are bytes
abbrev pub Bytes : List ℕ → Type 0
Bytes [] = Unit {0}
Bytes (w ∷ ws) = (w < 256) × Bytes ws

-- the sets, compared by a number
abbrev order : Set → ℕ
order Basic = 0
order Set1 = 1
order Set2 = 2
order Set3 = 3

abbrev back : ℕ → Set
back n = pick (eqb n 0) Basic (pick (eqb n 1) Set1 (pick (eqb n 2) Set2 Set3))

back_order : (s : Set) → back (order s) ≡ s
back_order Basic = refl
back_order Set1 = refl
back_order Set2 = refl
back_order Set3 = refl

same_eq : (s s' : Set) → T (eqb (order s) (order s')) → s ≡ s'
same_eq s s' t = sym (back_order s) ∙ ap back (eqb→eq (order s) (order s') t) ∙ back_order s'

-- the value in the basic set that shifts to a set
abbrev pub shift_no : Set → ℕ
shift_no Basic = 0
shift_no Set1 = 0
shift_no Set2 = 1
shift_no Set3 = 2

is_of : Set → ℕ → Value → Bool
is_of s v (Char c) = eqb (order (set_of c)) (order s) && eqb (number_of c) v
is_of s v (Shift s') = eqb (order s) 0 && (ltb 0 (order s') && eqb (shift_no s') v)
is_of s v Unused = true

all_of : (s : Set) → T (below 40 (λ v. is_of s v (value s v)))
unfolding is_of value set_of number_of
all_of Basic = tt
all_of Set1 = tt
all_of Set2 = tt
all_of Set3 = tt

of : (s : Set) (v : ℕ) → v < 40 → (x : Value) → value s v ≡ x → T (is_of s v x)
of s v h x e = subst (λ (x : Value). T (is_of s v x)) e (at_below 40 (λ v. is_of s v (value s v)) (all_of s) v h)

both : (a b : Bool) → T (a && b) → T a × T b
both true b t = (tt, t)
both false b t = absurd t

pub char_of : (s : Set) (v c : ℕ) → v < 40 → value s v ≡ Char c → (set_of c ≡ s) × (number_of c ≡ v)
unfolding is_of
char_of s v c h e =
    let t = both (eqb (order (set_of c)) (order s)) (eqb (number_of c) v) (of s v h (Char c) e) in
    (same_eq (set_of c) s t.0, eqb→eq (number_of c) v t.1)

shifted : (s : Set) → T (ltb 0 (order s)) → Shifted s
shifted Basic t = absurd t
shifted Set1 t = tt
shifted Set2 t = tt
shifted Set3 t = tt

pub shift_of : (s s' : Set) (v : ℕ) → v < 40 → value s v ≡ Shift s' → (s ≡ Basic) × Shifted s' × (shift_no s' ≡ v)
unfolding is_of
shift_of s s' v h e =
    let t = both (eqb (order s) 0) (ltb 0 (order s') && eqb (shift_no s') v) (of s v h (Shift s') e) in
    let u = both (ltb 0 (order s')) (eqb (shift_no s') v) t.1 in
    (same_eq s Basic t.0, shifted s' u.0, eqb→eq (shift_no s') v u.1)

-- a basic character's number is above those of the shifts
abbrev no_shift : Set → ℕ → Bool
no_shift Basic v = leb 3 v
no_shift Set1 v = true
no_shift Set2 v = true
no_shift Set3 v = true

all_basic : T (below 128 (λ c. no_shift (set_of c) (number_of c)))
unfolding set_of number_of
all_basic = tt

pub basic_number : (c : ℕ) → c < 128 → set_of c ≡ Basic → 3 ≤ number_of c
basic_number c h e =
    leb→le 3 (number_of c)
    (subst (λ (s : Set). T (no_shift s (number_of c))) e (at_below 128 (λ c. no_shift (set_of c) (number_of c)) all_basic c h))
