-- The moves of the definition, told by places of the text: values, pairs, characters and the changes of mode.
-- Assumes nothing.
use Rattle.std.specs.Char.{is_ascii_digit}
use mathlib.Core.Bool.{Bool, true, false, not, ◌&&◌}
use mathlib.Core.List.{List, [], ◌∷◌}
use mathlib.Core.Path.{◌≡◌, refl, ap, sym, ◌∙◌}
use Prim.Native.Nat.{ℕ, suc, ◌+◌, ◌-◌, ◌*◌, ◌≤◌, ◌<◌}
use native.Mathlib.Omega.{arith}
use native.Mathlib.Numerals.{add-one}
use lib.Dec.{ltb}
use lib.ListN.{length, drop, get_or}
use lib.Seq.{drop-cons, drop-length}
use borrow.Author.Tests.{ltb-true, ltb-false}
use Rattle.refusal.specs.Pick.{pick}
use Rattle.codeword.specs.declared.Set.{Set}
use Rattle.codeword.specs.declared.Set.TheVariants.{Basic, Set1, Set2, Set3}
use Rattle.codeword.specs.Characters.{set_of, number_of}
use Rattle.codeword.specs.Meanings.{unfinished}
use Rattle.codeword.specs.Reading.{in_ascii, in_c40}
use Rattle.codeword.specs.Numbered.{is_basic}
use Rattle.optimum.specs.Cost.{asc, digit}
use Rattle.optimum.specs.Write.{fits, val, stuck, next_in, next, third_in, third, one, pair, character, move}
use Rattle.symbol_writer.specs.Rows.{state_of, column_behind}
use Rattle.symbol_writer.proofs.Rows.{digit_is}

pub here : (t : List ℕ) (i : ℕ) → i < length t → drop i t ≡ get_or t i 0 ∷ drop (i + 1) t
here t i h = drop-cons t i 0 h ∙ ap (λ k. get_or t i 0 ∷ drop k t) (sym (add-one i))

pub at_end : (t : List ℕ) (i : ℕ) → i ≤ length t → length t ≤ i → drop i t ≡ []
at_end t i h g = let e : i ≡ length t = omega arith in rw e (drop-length t)

-- THE NEXT VALUE
pub next_at_end : (t : List ℕ) (s : Set) → t ≡ [] → stuck ≡ next s t
unfolding next
next_at_end t s e = rw e

abbrev pub shift : Set → ℕ
shift Basic = 0
shift Set1 = 0
shift Set2 = 1
shift Set3 = 2

module _ (t : List ℕ) (i : ℕ) (h : i < length t) where
  -- in the basic set: its shift
  pub next_shift : (s k : Set) → s ≡ Basic → k ≡ set_of (get_or t i 0) → is_basic k ≡ false → val (shift k) k (drop i t) ≡ next s (drop i t)
  unfolding next
  next_shift s Basic p q e = cc
  next_shift s Set1 p q e = rw (here t i h, p, ← q)
  next_shift s Set2 p q e = rw (here t i h, p, ← q)
  next_shift s Set3 p q e = rw (here t i h, p, ← q)

  -- in its own set, or behind a shift: the character's number
  pub next_number : (s : Set) (v : ℕ) → (s ≡ Basic → Basic ≡ set_of (get_or t i 0)) → v ≡ number_of (get_or t i 0) → val v Basic (drop (i + 1) t) ≡ next s (drop i t)
  unfolding next
  next_number Basic v q e = rw (here t i h, ← (q refl), e)
  next_number Set1 v q e = rw (here t i h, e)
  next_number Set2 v q e = rw (here t i h, e)
  next_number Set3 v q e = rw (here t i h, e)

-- a value comes only in front of the end
pub value_before : (t : List ℕ) (i : ℕ) (s : Set) {v : ℕ} {s' : Set} {u : List ℕ} → i ≤ length t → val v s' u ≡ next s (drop i t) → i < length t
unfolding next
value_before t i s h e = go (ltb i (length t)) refl
  where
    go : (x : Bool) → ltb i (length t) ≡ x → i < length t
    go true q = ltb-true i (length t) q
    go false q = let z = rw (at_end t i h (ltb-false i (length t) q)) at e in absurd (cc)

-- THE THIRD VALUE
pub third_next : (b : Bool) (n : ℕ) (s : Set) (t : List ℕ) → (s ≡ Basic → ⊥) → next s t ≡ third b n s t
unfolding next third
third_next b n Basic t g = absurd (g refl)
third_next b n Set1 [] g = refl
third_next b n Set1 (c ∷ t) g = refl
third_next b n Set2 [] g = refl
third_next b n Set2 (c ∷ t) g = refl
third_next b n Set3 [] g = refl
third_next b n Set3 (c ∷ t) g = refl

pub third_at_end : (b : Bool) (n : ℕ) (t : List ℕ) → stuck ≡ next Basic t → val 0 Set1 t ≡ third b n Basic t
unfolding next third
third_at_end b n [] e = refl
third_at_end b n (c ∷ t) e = go (set_of c) e
  where
    go : (k : Set) → stuck ≡ next_in k c t → val 0 Set1 (c ∷ t) ≡ third_in b n k c t
    go Basic f = absurd (cc)
    go Set1 f = absurd (cc)
    go Set2 f = absurd (cc)
    go Set3 f = absurd (cc)

-- in the basic set: the next value if the n codewords behind the pair will do, and else filler
module _ (b : Bool) (n : ℕ) (x : Bool) (v : ℕ) (s : Set) (u : List ℕ) where
  in_set : (c : ℕ) (t : List ℕ) (k : Set) → val v s u ≡ next_in k c t → x ≡ fits b t (state_of (column_behind s)) n → pick x (val v s u) (val 0 Set1 (c ∷ t)) ≡ third_in b n k c t
  in_set c t Basic e f = let q : s ≡ Basic = cc in rw (f, e, q)
  in_set c t Set1 e f = rw e (same x)
    where
      same : (x : Bool) → pick x (val 0 Set1 (c ∷ t)) (val 0 Set1 (c ∷ t)) ≡ val 0 Set1 (c ∷ t)
      same true = refl
      same false = refl
  in_set c t Set2 e f = let q : s ≡ Set2 = cc in rw (f, e, q)
  in_set c t Set3 e f = let q : s ≡ Set3 = cc in rw (f, e, q)

  pub third_is : (t : List ℕ) (i : ℕ) → i < length t → val v s u ≡ next Basic (drop i t) → x ≡ fits b (drop (i + 1) t) (state_of (column_behind s)) n → pick x (val v s u) (val 0 Set1 (drop i t)) ≡ third b n Basic (drop i t)
  unfolding next third
  third_is t i h e f = rw (here t i h) (in_set (get_or t i 0) (drop (i + 1) t) (set_of (get_or t i 0)) (rw (here t i h) at e) f)

-- CHARACTERS
pub digit_told : {c c' : ℕ} {x y : Bool} → x ≡ is_ascii_digit c → c ≡ c' → x ≡ y → digit c' ≡ y
digit_told {c} p q r = ap digit (sym q) ∙ sym (digit_is c) ∙ sym p ∙ r

pub first_fails : (x y z : Bool) → x ≡ false → (x && y && z) ≡ false
first_fails x y z e = rw e

pub second_fails : (x y z : Bool) → x ≡ true → y ≡ false → (x && y && z) ≡ false
second_fails x y z e f = rw (e, f)

pub third_fails : (x y z : Bool) → x ≡ true → y ≡ true → z ≡ false → (x && y && z) ≡ false
third_fails x y z e f g = rw (e, f, g)

module _ (b : Bool) (t : List ℕ) (i n : ℕ) where
  two_on : i + 2 ≤ length t → drop i t ≡ get_or t i 0 ∷ get_or t (i + 1) 0 ∷ drop (i + 2) t
  two_on h =
      let e : i + 1 + 1 ≡ i + 2 = omega arith in
      here t i (omega arith) ∙ ap (λ l. get_or t i 0 ∷ l) (here t (i + 1) (omega arith) ∙ ap (λ k. get_or t (i + 1) 0 ∷ drop k t) e)

  pub character_two : i + 2 ≤ length t → digit (get_or t i 0) ≡ true → digit (get_or t (i + 1) 0) ≡ true → fits b (drop (i + 2) t) asc n ≡ true
      → (v : ℕ) → v ≡ 130 + (10 * (get_or t i 0 - 48) + (get_or t (i + 1) 0 - 48)) → one v in_ascii (drop (i + 2) t) ≡ character b n (drop i t)
  character_two h p q r v e = rw (two_on h, p, q, r, e)

  pub character_one : i + 2 ≤ length t → (digit (get_or t i 0) && digit (get_or t (i + 1) 0) && fits b (drop (i + 2) t) asc n) ≡ false → one (get_or t i 0 + 1) in_ascii (drop (i + 1) t) ≡ character b n (drop i t)
  character_one h e =
      let e' : i + 1 + 1 ≡ i + 2 = omega arith in
      rw (two_on h, e, here t (i + 1) (omega arith), e', add-one (get_or t i 0))

-- CHANGES OF MODE
module _ (b : Bool) (n : ℕ) (s : Set) (t : List ℕ) where
  pub unlatched : 1 ≤ n → unfinished s ≡ false → fits b t asc n ≡ true → one 254 in_ascii t ≡ move b (suc n) (in_c40 s) t
  unfolding move
  unlatched h e f = let q : n ≡ suc (n - 1) = omega arith in rw q (rw (e, rw q at f))

  pub not_unlatched : (k : ℕ) → n ≡ suc k → (not (unfinished s) && fits b t asc n) ≡ false → pair b k s t ≡ move b (suc n) (in_c40 s) t
  unfolding move
  not_unlatched k q e = rw q (rw (rw q at e))

-- the last codeword in C40 mode
module _ (b : Bool) (s : Set) (t : List ℕ) where
  pub last_padded : b ≡ true → one 254 in_ascii t ≡ move b 1 (in_c40 s) t
  unfolding move
  last_padded e = rw e

  pub last_at_end : t ≡ [] → one 254 in_ascii t ≡ move b 1 (in_c40 s) t
  unfolding move
  last_at_end e = rw e (go b)
    where
      go : (b : Bool) → one 254 in_ascii [] ≡ move b 1 (in_c40 s) []
      go true = refl
      go false = refl

  pub last_character : b ≡ false → (i : ℕ) → i < length t → one (get_or t i 0 + 1) in_ascii (drop (i + 1) t) ≡ move b 1 (in_c40 s) (drop i t)
  unfolding move
  last_character e i h = rw (e, here t i h, add-one (get_or t i 0))
