-- The rows of costs: one row from the row behind it, the rows that are stored, and how large a cost can be.
-- Assumes nothing.
use mathlib.Core.Bool.{Bool, true, false, not}
use mathlib.Core.List.{List, [], ◌∷◌, ◌++◌, append_assoc}
use mathlib.Core.Logic.{◌⊎◌, inl, inr, ⊎_elim}
use mathlib.Core.Path.{◌≡◌, refl, ap, sym, ◌∙◌}
use Prim.Native.Nat.{ℕ, zero, suc, ◌+◌, ◌-◌, ◌*◌, ◌%◌, ◌≤◌, ◌<◌}
use native.Mathlib.Omega.{arith}
use Rattle.std.proofs.Common.{rules}
use native.Mathlib.Numerals.{add-one, add-two, add-three, add-four, add_five, add_six, add_seven}
use lib.Dec.{eqb, leb, ltb}
use lib.ListN.{set, length, take, drop, get_or, length-append, length-drop}
use lib.Seq.{sets-eq, drop-cons, length-take-le, get_or-drop, get_or-take, drop-length, drop-drop, drop_at, take_at}
use borrow.Author.Tests.{eqb-true, eqb-false}
use Rattle.std.specs.Char.{is_ascii_digit}
use Rattle.refusal.specs.Pick.{pick}
use Rattle.codeword.specs.declared.Set.{Set}
use Rattle.codeword.specs.declared.Set.TheVariants.{Basic, Set1, Set2, Set3}
use Rattle.refusal.specs.Limits.{limit}
use Rattle.codeword.specs.Characters.{set_of}
use Rattle.codeword.specs.Numbered.{is_basic}
use Rattle.optimum.specs.Cost.{State, asc, dig, d0, d1, d2, fil, fin, inf, digit, forms, base, chars, pairs, before, cost}
use Rattle.optimum.specs.Write.{odd, fits}
use Rattle.symbol_writer.specs.declared.costs.Least.{Least}
use Rattle.symbol_writer.specs.declared.costs.Costs.{Costs}
use Rattle.symbol_writer.specs.declared.costs.Column.{Column}
use Rattle.symbol_writer.specs.declared.costs.Column.TheVariants as column
use Rattle.symbol_writer.specs.Rows.{work_room, least_of, least_at, place_in_row, state_of, lesser, one_more, two_more, costs_of, k_of, Low, cells, put_at, Rows, Filled}

forms_pick : (s : Set) (x y : ℕ) → forms s x y ≡ pick (is_basic s) x y
forms_pick Basic x y = refl
forms_pick Set1 x y = refl
forms_pick Set2 x y = refl
forms_pick Set3 x y = refl

-- THE ROW in front of a character
abbrev never : Least
never = record { even = inf; odd = inf }

pub digit_is : (c : ℕ) → is_ascii_digit c ≡ digit c
unfolding digit
digit_is c = go (ltb c 48) refl
  where
    go : (x : Bool) → ltb c 48 ≡ x → is_ascii_digit c ≡ pick x false (ltb c 58)
    go true e = search rules
    go false e = grind arith

pub then_is : {A : Type 0} {x : Bool} (a b : A) {r : A} → x ≡ true → r ≡ a → r ≡ pick x a b
then_is a b e p = rw e p

pub else_is : {A : Type 0} {x : Bool} (a b : A) {r : A} → x ≡ false → r ≡ b → r ≡ pick x a b
else_is a b e p = rw e p

pub costs_is : (c : ℕ) (k : Costs) {x y : Bool} {digit' digits first one third chars' lone values ascii none filler two : Least}
    → x ≡ digit c → y ≡ is_basic (set_of c)
    → digit' ≡ pick x k.ascii never → digits ≡ pick x (one_more k.digit) never
    → first ≡ pick y k.one k.two → one ≡ pick y k.two (two_more k.none) → third ≡ pick y k.none k.one
    → chars' ≡ lesser (one_more k.ascii) digits → lone ≡ one_more k.end → values ≡ lesser lone first
    → ascii ≡ lesser chars' (one_more values) → none ≡ lesser (one_more chars') values
    → filler ≡ lesser (one_more ascii) lone → two ≡ two_more (lesser filler third)
    → ◌≡◌ {A = Costs} (record { ascii = ascii; digit = digit'; none = none; one = one; two = two; end = never }) (costs_of (before c (k_of k)))
unfolding before chars pairs
costs_is c k p q d d' e e' e'' f g h i j l m =
    rw (m, l, j, i, h, g, f, e, e', e'', d, d', p, q) (go (digit c) refl (set_of c) refl)
  where
    go : (x : Bool) → digit c ≡ x → (s : Set) → set_of c ≡ s
        → ◌≡◌ {A = Costs} (record {
          ascii = lesser (lesser (one_more k.ascii) (pick x (one_more k.digit) never)) (one_more (lesser (one_more k.end) (pick (is_basic s) k.one k.two)));
          digit = pick x k.ascii never;
          none = lesser (one_more (lesser (one_more k.ascii) (pick x (one_more k.digit) never))) (lesser (one_more k.end) (pick (is_basic s) k.one k.two));
          one = pick (is_basic s) k.two (two_more k.none);
          two = two_more (lesser (lesser (one_more (lesser (lesser (one_more k.ascii) (pick x (one_more k.digit) never)) (one_more (lesser (one_more k.end) (pick (is_basic s) k.one k.two))))) (one_more k.end)) (pick (is_basic s) k.none k.one));
          end = never;
        }) (costs_of (before c (k_of k)))
    go true p Basic q = rw (p, q)
    go true p Set1 q = rw (p, q)
    go true p Set2 q = rw (p, q)
    go true p Set3 q = rw (p, q)
    go false p Basic q = rw (p, q)
    go false p Set1 q = rw (p, q)
    go false p Set2 q = rw (p, q)
    go false p Set3 q = rw (p, q)

-- A ROW THAT IS STORED
pub put_is : (w : List ℕ) (at : ℕ) (k : Costs) → at + 8 ≤ length w → set (set (set (set (set (set (set (set w at k.ascii.even) (at + 1) k.ascii.odd) (at + 2) k.none.even) (at + 3) k.none.odd) (at + 4) k.one.even) (at + 5) k.one.odd) (at + 6) k.two.even) (at + 7) k.two.odd ≡ put_at w at k
put_is w at k h =
    rw (add-one at, add-two at, add-three at, add-four at, add_five at, add_six at, add_seven at)
    (sets-eq (cells k) w at h ∙ append_assoc (take at w) (cells k) (drop (at + 8) w))

pub drop_on : (m n : ℕ) (l : List ℕ) → m ≤ n → drop n l ≡ drop (n - m) (drop m l)
drop_on m n l h = let e : m + (n - m) ≡ n = omega arith in ap (λ k. drop k l) (sym e) ∙ sym (drop-drop (n - m) m l)

module _ (w : List ℕ) (at : ℕ) (k : Costs) (room : at + 8 ≤ length w) where
  from_here : drop at (put_at w at k) ≡ cells k ++ drop (at + 8) w
  from_here = drop_at (take at w) (cells k ++ drop (at + 8) w) at (length-take-le at w (omega arith))

  pub put_here : take 8 (drop at (put_at w at k)) ≡ cells k
  put_here = ap (take 8) from_here ∙ take_at (cells k) (drop (at + 8) w) 8 refl

  behind : drop (at + 8) (put_at w at k) ≡ drop (at + 8) w
  behind = sym (drop-drop 8 at (put_at w at k)) ∙ ap (drop 8) from_here ∙ drop_at (cells k) (drop (at + 8) w) 8 refl

  pub put_beyond : (n : ℕ) → at + 8 ≤ n → drop n (put_at w at k) ≡ drop n w
  put_beyond n h = drop_on (at + 8) n (put_at w at k) h ∙ ap (drop (n - (at + 8))) behind ∙ sym (drop_on (at + 8) n w h)

  pub put_length : length (put_at w at k) ≡ length w
  put_length = omega (arith, length-append (take at w) (cells k ++ drop (at + 8) w), length-take-le at w (omega arith), length-drop (at + 8) w)

-- HOW LARGE a cost can be
base_low : (b : Bool) (st : State) (p : Bool) → base b st p ≤ 8194
unfolding base
base_low b asc false = omega arith
base_low true asc true = omega arith
base_low false asc true = omega arith
base_low b dig p = omega arith
base_low true d0 false = omega arith
base_low false d0 false = omega arith
base_low b d0 true = omega arith
base_low b d1 p = omega arith
base_low true d2 false = omega arith
base_low false d2 false = omega arith
base_low b d2 true = omega arith
base_low true fil false = omega arith
base_low false fil false = omega arith
base_low b fil true = omega arith
base_low true fin false = omega arith
base_low false fin false = omega arith
base_low b fin true = omega arith

pick_low : (m : ℕ) (b : Bool) (x y : ℕ) → x ≤ m → y ≤ m → pick b x y ≤ m
pick_low m true x y h g = h
pick_low m false x y h g = g

forms_low : (m : ℕ) (s : Set) (x y : ℕ) → x ≤ m → y ≤ m → forms s x y ≤ m
forms_low m s x y h g = rw (forms_pick s x y) (pick_low m (is_basic s) x y h g)

before_low : (c m : ℕ) (k : State → Bool → ℕ) → inf ≤ m → ((st : State) (p : Bool) → k st p ≤ m) → (st : State) (p : Bool) → before c k st p ≤ m + 4
unfolding before chars
before_low c m k h g asc p = omega (arith, g asc (not p))
before_low c m k h g dig p = pick_low (m + 4) (digit c) (k asc p) inf (omega (arith, g asc p)) (omega arith)
before_low c m k h g d0 true = omega (arith, g asc true)
before_low c m k h g d0 false = omega (arith, g asc false)
before_low c m k h g d1 p = forms_low (m + 4) (set_of c) (k d2 p) (2 + k d0 p) (omega (arith, g d2 p)) (omega (arith, g d0 p))
before_low c m k h g d2 true = omega (arith, g asc true)
before_low c m k h g d2 false = omega (arith, g asc false)
before_low c m k h g fil true = omega (arith, g asc true)
before_low c m k h g fil false = omega (arith, g asc false)
before_low c m k h g fin p = omega arith

pub cost_low : (b : Bool) (t : List ℕ) (st : State) (p : Bool) → cost b t st p ≤ 8194 + 4 * length t
unfolding cost
cost_low b [] st p = omega (arith, base_low b st p)
cost_low b (c ∷ t) st p = omega (arith, before_low c (8194 + 4 * length t) (cost b t) (omega arith) (λ st p. cost_low b t st p) st p)

pub low_of : (b : Bool) (t : List ℕ) (k : Costs) → length t ≤ limit → k ≡ costs_of (cost b t) → Low k
low_of b t k h e =
    rw e
    (record {
      ascii = (below asc false, below asc true);
      digit = (below dig false, below dig true);
      none = (below d0 false, below d0 true);
      one = (below d1 false, below d1 true);
      two = (below d2 false, below d2 true);
      end = (below fin false, below fin true);
    })
  where
    below : (st : State) (p : Bool) → cost b t st p < 60000
    below st p = omega (arith, cost_low b t st p)

-- ONE ROW MORE
keep : (c : ℕ) (k : State → Bool → ℕ) → costs_of (before c (k_of (costs_of k))) ≡ costs_of (before c k)
unfolding before chars pairs
keep c k = refl

cost_at : (b : Bool) (t : List ℕ) (i : ℕ) → i < length t → cost b (drop i t) ≡ before (get_or t i 0) (cost b (drop (i + 1) t))
unfolding cost
cost_at b t i h = ap (cost b) (drop-cons t i 0 h) ∙ ap (λ k. before (get_or t i 0) (cost b (drop k t))) (sym (add-one i))

pub costs_again : (b : Bool) (t : List ℕ) (i : ℕ) (k r : Costs) → i < length t → k ≡ costs_of (cost b (drop (i + 1) t)) → r ≡ costs_of (before (get_or t i 0) (k_of k)) → r ≡ costs_of (cost b (drop i t))
costs_again b t i k r h p q =
    q ∙ ap (λ (k : Costs). costs_of (before (get_or t i 0) (k_of k))) p
    ∙ keep (get_or t i 0) (cost b (drop (i + 1) t)) ∙ ap costs_of (sym (cost_at b t i h))

pub filled_more : (b : Bool) (t old w : List ℕ) (i : ℕ) (k : Costs) → 8 * i + 8 ≤ work_room → work_room ≤ length old → k ≡ costs_of (cost b (drop i t)) → Filled b t old w (i + 1) → Filled b t old (put_at w (8 * i) k) i
filled_more b t old w i k fit room e F =
    record {
      long = put_length w (8 * i) k low ∙ F.long;
      rest = put_beyond w (8 * i) k low work_room fit ∙ F.rest;
      row = λ j l u. go j l u (eqb j i) refl;
    }
  where
    low : 8 * i + 8 ≤ length w
    low = omega (arith, F.long)

    go : (j : ℕ) → i ≤ j → j ≤ length t → (x : Bool) → eqb j i ≡ x → take 8 (drop (8 * j) (put_at w (8 * i) k)) ≡ cells (costs_of (cost b (drop j t)))
    go j l u true q = rw (eqb-true j i q) (put_here w (8 * i) k low ∙ ap cells e)
    go j l u false q =
        let n = eqb-false j i q in
        ap (take 8) (put_beyond w (8 * i) k low (8 * j) (omega (arith, n))) ∙ F.row j (omega (arith, n)) u

pub filled_last : (b : Bool) (t w : List ℕ) (k : Costs) → length t ≤ limit → work_room ≤ length w → k ≡ costs_of (base b) → (k ≡ costs_of (cost b (drop (length t) t))) × Filled b t w (put_at w (8 * length t) k) (length t)
unfolding cost
filled_last b t w k small room e = (
  is,
  record {
    long = put_length w (8 * length t) k (omega arith);
    rest = put_beyond w (8 * length t) k (omega arith) work_room (omega arith);
    row = λ j l u. go j l u;
  },
)
  where
    is : k ≡ costs_of (cost b (drop (length t) t))
    is = rw (drop-length t) e

    go : (j : ℕ) → length t ≤ j → j ≤ length t → take 8 (drop (8 * j) (put_at w (8 * length t) k)) ≡ cells (costs_of (cost b (drop j t)))
    go j l u = let q : j ≡ length t = omega arith in rw q (put_here w (8 * length t) k (omega arith) ∙ ap cells is)

-- A COST LOOKED UP
pub parity : (n : ℕ) → ((odd n ≡ false) × (n % 2 ≡ 0)) ⊎ ((odd n ≡ true) × (n % 2 ≡ 1))
unfolding odd
parity zero = inl (refl, refl)
parity (suc n) = ⊎_elim (λ z. inr (ap not z.0, omega (arith, z.1))) (λ z. inl (ap not z.0, omega (arith, z.1))) (parity n)

pub even_is : (n : ℕ) → n % 2 ≡ 0 → odd n ≡ false
even_is n e = ⊎_elim (λ z. z.0) (λ z. absurd (omega (arith, z.1))) (parity n)

pub odd_is : (n : ℕ) → (n % 2 ≡ 0 → ⊥) → odd n ≡ true
odd_is n e = ⊎_elim (λ z. absurd (e z.1)) (λ z. z.0) (parity n)

at_parity : (f : Bool → ℕ) (p : Bool) → least_at (least_of f) p ≡ f p
at_parity f true = refl
at_parity f false = refl

pub allowed : (b : Bool) (t : List ℕ) (st : State) (n : ℕ) (a : Least) → a ≡ least_of (cost b t st) → leb (least_at a (odd n)) n ≡ fits b t st n
allowed b t st n a e = rw e (ap (λ k. leb k n) (at_parity (cost b t st) (odd n)))

module _ (b : Bool) (t w : List ℕ) (F : Rows b t w 0) (i : ℕ) (low : i ≤ length t) where
  cell : (m : ℕ) → m < 8 → get_or w (8 * i + m) 0 ≡ get_or (cells (costs_of (cost b (drop i t)))) m 0
  cell m h =
      sym (get_or-drop (8 * i) w m 0) ∙ sym (get_or-take 8 (drop (8 * i) w) m 0 h) ∙ ap (λ l. get_or l m 0) (F i (omega arith) low)

  next_cell : (m : ℕ) → m + 1 < 8 → get_or w (8 * i + m + 1) 0 ≡ get_or (cells (costs_of (cost b (drop i t)))) (m + 1) 0
  next_cell m h = let e : 8 * i + m + 1 ≡ 8 * i + (m + 1) = omega arith in ap (λ k. get_or w k 0) e ∙ cell (m + 1) h

  pub row_is : (column : Column) → ◌≡◌ {A = Least} (record { even = get_or w (8 * i + place_in_row column) 0; odd = get_or w (8 * i + place_in_row column + 1) 0 }) (least_of (cost b (drop i t) (state_of column)))
  row_is column.Ascii = rw (cell 0 (omega arith), next_cell 0 (omega arith))
  row_is column.NoValue = rw (cell 2 (omega arith), next_cell 2 (omega arith))
  row_is column.OneValue = rw (cell 4 (omega arith), next_cell 4 (omega arith))
