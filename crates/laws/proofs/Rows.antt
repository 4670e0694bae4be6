-- Rows and their identifiers: with distinct identifiers a row is found under its own; no identifier and no data hold a separator;
-- and lengths within the limit. By induction on the dictionary or the list.
-- Assumes nothing.
use Prim.Native.Nat.{ℕ, zero, suc, ◌+◌, ◌≤◌}
use mathlib.Core.Bool.{Bool, true, false, not, ◌&&◌}
use mathlib.Core.List.{List, [], ◌∷◌, ◌++◌, map-append}
use mathlib.Core.Path.{◌≡◌, refl, ap, sym, ◌∙◌}
use native.Mathlib.Omega.{arith}
use lib.Dec.{leb, eqb}
use borrow.Author.Tests.{leb-true, eqb-true, eq-eqb, ne_eqb, not-true}
use Rattle.refusal.specs.Pick.{pick}
use Rattle.refusal.specs.Answers.{good}
use Rattle.refusal.proofs.Binds.{never, same_good, by_and, by_or, or_right, clash}
use Rattle.std.specs.declared.option.Option.{Option}
use Rattle.std.specs.Prelude.{Some, None}
use Rattle.dictionary.specs.Dictionary.{Dictionary, in_kind, is_greatest, allowed, fixed, find, row_at, rows_of, listed, distinct}
use Rattle.dictionary.specs.declared.Kind.{Kind}
use Rattle.dictionary.specs.declared.Kind.TheVariants.{Numeric, Alphabetic, Alphanumeric}
use Rattle.dictionary.specs.declared.Row.{Row}
use Rattle.dictionary.specs.declared.Field.{Field}
use Rattle.text.specs.Text.{within}
use Rattle.dictionary.specs.inner.Lookup.{plain}
use Rattle.refusal.specs.Classes.{upper}

-- a row that stands in the dictionary is listed
pub row_listed : (a b : ℕ) (d : Dictionary) (n i : ℕ) (r : Row) → row_at d n i ≡ good r → (eqb a r.first && eqb b r.second) ≡ true → listed a b d ≡ true
unfolding row_at listed
row_listed a b [] n i r e t = never e
row_listed a b (q ∷ d) zero i r e t = let s = same_good e in rw (s, t)
row_listed a b (q ∷ d) (suc n) i r e t = or_right (eqb a q.first && eqb b q.second) (listed a b d) (row_listed a b d n i r e t)

-- with distinct identifiers a row is found under its own
pub find_row : (d : Dictionary) (k p n i : ℕ) (r : Row) → distinct d ≡ true → row_at d n i ≡ good r → find r.first r.second k p d ≡ good (record { number = k + n; row = r })
unfolding find row_at distinct
find_row [] k p n i r s e = never e
find_row (q ∷ d) k p zero i r s e =
    let h = same_good e in
    let z : k + 0 ≡ k = omega arith in
    rw (h, eq-eqb r.first r.first refl, eq-eqb r.second r.second refl, z)
find_row (q ∷ d) k p (suc n) i r s e = by_and _ _ s λ a b. go a (eqb r.first q.first && eqb r.second q.second) refl (find_row d (suc k) p n i r b e)
  where
    go : not (listed q.first q.second d) ≡ true → (t : Bool) → (eqb r.first q.first && eqb r.second q.second) ≡ t
        → find r.first r.second (suc k) p d ≡ good (record { number = suc k + n; row = r })
        → pick t (good (record { number = k; row = q })) (find r.first r.second (suc k) p d) ≡ good (record { number = k + suc n; row = r })
    go a true t ih = by_and (eqb r.first q.first) (eqb r.second q.second) t λ x y.
        let u = eqb-true r.first q.first x in
        let v = eqb-true r.second q.second y in
        let w : listed q.first q.second d ≡ true = row_listed q.first q.second d n i r e (rw (eq-eqb q.first r.first (sym u), eq-eqb q.second r.second (sym v))) in
        clash (sym (not-true _ a) ∙ w)
    go a false t ih = let z : suc k + n ≡ k + suc n = omega arith in rw (← z) ih

pub row_plain : (d : Dictionary) (n i : ℕ) (r : Row) → plain d ≡ true → row_at d n i ≡ good r → (32 ≤ r.first) × (32 ≤ r.second)
unfolding row_at plain
row_plain [] n i r s e = never e
row_plain (q ∷ d) zero i r s e = rw (← same_good e) (by_and _ _ s λ a _. by_and _ _ a λ x y. (leb-true 32 q.first x, leb-true 32 q.second y))
row_plain (q ∷ d) (suc n) i r s e = by_and (leb 32 q.first && leb 32 q.second) (plain d) s λ _ b. row_plain d n i r b e

-- what may stand in data is no separator
kind_plain : (k : Kind) (c : ℕ) → in_kind k c ≡ true → 32 ≤ c
kind_plain Numeric c e = by_and (leb 48 c) (leb c 57) e λ a _. let z : 48 ≤ c = leb-true 48 c a in omega arith
kind_plain Alphabetic c e =
    by_or (upper c) (eqb c 32) e
    (λ e. by_and (leb 65 c) (leb c 90) e λ a _. let z : 65 ≤ c = leb-true 65 c a in omega arith)
    (λ e. let z : c ≡ 32 = eqb-true c 32 e in omega arith)
kind_plain Alphanumeric c e = by_and (leb 32 c) (leb c 95) e λ a _. leb-true 32 c a

pub allowed_plain : (r : Row) (chars : List ℕ) (c : ℕ) → allowed r chars c ≡ true → 32 ≤ c
unfolding allowed
allowed_plain r chars c e = kind_plain r.kind c e

-- a fixed field's data are full
fixed_at : (m : Option ℕ) (l n : ℕ) → within m n ≡ true → l ≤ n → is_greatest m l ≡ true → is_greatest m n ≡ true
fixed_at (Some k) l n w h e =
    let a : l ≡ k = eqb-true l k e in
    let b : n ≤ k = leb-true n k w in
    eq-eqb n k (omega arith)
fixed_at None l n w h e = e

pub fixed_full : (r : Row) (n : ℕ) → within r.greatest n ≡ true → r.least ≤ n → fixed r ≡ true → is_greatest r.greatest n ≡ true
fixed_full r n w h e = fixed_at r.greatest r.least n w h e

-- below the limit it is not reached
pub not_yet : (m : Option ℕ) (k n : ℕ) → within m n ≡ true → suc k ≤ n → is_greatest m k ≡ false
not_yet (Some j) k n w h = let b : n ≤ j = leb-true n j w in ne_eqb k j (λ e. omega (arith, e))
not_yet None k n w h = refl

-- one more row at the end
pub rows_snoc : (l m : List Field) (f g : Field) → rows_of l ≡ rows_of m → f.row ≡ g.row → rows_of (l ++ (f ∷ [])) ≡ rows_of (m ++ (g ∷ []))
rows_snoc l m f g e h =
    let more : (x : List Field) (y : Field) → rows_of (x ++ (y ∷ [])) ≡ rows_of x ++ (y.row ∷ []) = λ x y. map-append (λ (f : Field). f.row) x (y ∷ []) in
    more l f ∙ (ap (λ (x : List ℕ). x ++ (f.row ∷ [])) e ∙ (ap (λ (k : ℕ). rows_of m ++ (k ∷ [])) h ∙ sym (more m g)))
