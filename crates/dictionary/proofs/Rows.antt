-- Laws of the search for an identifier and of the row of a number, over any dictionary, and what holds of the rows themselves.
-- Where a function f gives every row's identifier the row's own number, an identifier can stand only at the place that f gives it:
-- a row before that place with the same identifier would have the same number. So one look there decides.
-- Assumes nothing.
use Prim.Native.Nat.{ℕ, zero, suc, ◌+◌, ◌≤◌, ◌<◌}
use mathlib.Core.Bool.{Bool, true, false, ◌&&◌}
use mathlib.Core.List.{[], ◌∷◌}
use mathlib.Core.Path.{◌≡◌, refl, ap, sym, ◌∙◌}
use native.Mathlib.Omega.{arith}
use lib.Dec.{eqb}
use lib.ListN.{length}
use borrow.Author.Tests.{eqb-true}
use Rattle.refusal.specs.Pick.{pick}
use Rattle.refusal.specs.Answers.{good, refused}
use Rattle.refusal.specs.Numbers.{unknown_identifier}
use Rattle.std.specs.Prelude.{Option, Some, None, slice_get}
use Rattle.std.specs.Bool.{then_some}
use Rattle.std.proofs.lemmas.Option.{none-some, same_Some}
use Rattle.dictionary.specs.declared.Row.{Row}
use Rattle.dictionary.specs.Dictionary.{Dictionary, Numbered, find, row_at, rising, listed, distinct}
use Rattle.dictionary.specs.Rows.{rows, row_count}
use Rattle.refusal.proofs.Binds.{clash, left, right, not_refused, same_good}
use Rattle.dictionary.specs.inner.Lookup.{place_of, found_says, row_found_says, plain}

-- THE ROWS RISE by identifier
pub rows_rising : rising rows ≡ true
unfolding rows rising
rows_rising = refl

pub rows_distinct : distinct rows ≡ true
unfolding rows distinct listed
rows_distinct = refl

pub rows_plain : plain rows ≡ true
unfolding rows plain
rows_plain = refl

pub rows_many : length rows ≡ row_count
unfolding rows
rows_many = refl

-- does f give each row's identifier the row's number, counted from k?
abbrev gives : Option ℕ → ℕ → Bool
gives (Some n) k = eqb n k
gives None k = false

unfoldable pub numbered : (f : ℕ → ℕ → Option ℕ) → (k : ℕ) → Dictionary → Bool
numbered f k [] = true
numbered f k (r ∷ d) = gives (f r.first r.second) k && numbered f (suc k) d

pub rows_numbered : numbered place_of 0 rows ≡ true
unfolding rows numbered place_of
rows_numbered = refl

given : (o : Option ℕ) (k : ℕ) → gives o k ≡ true → o ≡ Some k
given (Some n) k e = ap Some (eqb-true n k e)
given None k e = clash e

module _ (f : ℕ → ℕ → Option ℕ) (a b p : ℕ) where
  -- the row with the number k has the identifier only where f gives k
  told : (r : Row) (k : ℕ) → gives (f r.first r.second) k ≡ true → (f a b ≡ Some k → ⊥) → (t : Bool) → (eqb a r.first && eqb b r.second) ≡ t → t ≡ false
  told r k n h true e =
      let x : a ≡ r.first = eqb-true a r.first (left (eqb a r.first) (eqb b r.second) e) in
      let y : b ≡ r.second = eqb-true b r.second (right (eqb a r.first) (eqb b r.second) e) in
      absurd (h (rw (x, y) (given (f r.first r.second) k n)))
  told r k n h false e = refl

  -- no row of a number that f does not give
  absent : (d : Dictionary) (k : ℕ) → numbered f k d ≡ true → ((i : ℕ) → k ≤ i → f a b ≡ Some i → ⊥) → find a b k p d ≡ refused unknown_identifier p
  unfolding find numbered
  absent [] k n h = refl
  absent (r ∷ d) k n h =
      rw (told r k (left (gives (f r.first r.second) k) (numbered f (suc k) d) n) (h k (omega arith)) (eqb a r.first && eqb b r.second) refl)
      (absent d (suc k) (right (gives (f r.first r.second) k) (numbered f (suc k) d) n) (λ i l. h i (omega arith)))

  -- so one look at the place that f gives decides: no place, no row there, or a row whose identifier is tested
  pub no_place : (d : Dictionary) → numbered f 0 d ≡ true → f a b ≡ None → refused unknown_identifier p ≡ find a b 0 p d
  no_place d u e = sym (absent d 0 u (λ i l s. none-some i (sym e ∙ s)))

  abbrev pub looked : (m : ℕ) → Option Row → Option (ℕ × Row)
  looked m None = None
  looked m (Some r) = then_some (eqb a r.first && eqb b r.second) (m, r)

  here : (q : Row) (d : Dictionary) (k : ℕ) → find a b (suc k) p d ≡ refused unknown_identifier p → (t : Bool)
      → found_says (then_some t (k, q)) p ≡ pick t (good (record { number = k; row = q })) (find a b (suc k) p d)
  here q d k e true = refl
  here q d k e false = sym e

  pub look : (d : Dictionary) (k n m : ℕ) → numbered f k d ≡ true → f a b ≡ Some m → m ≡ k + n → (x : Option Row) → row_found_says x p ≡ row_at d n p
      → found_says (looked m x) p ≡ find a b k p d
  unfolding find row_at numbered
  look [] k n m u e g None h = refl
  look [] k n m u e g (Some r) h = not_refused h
  look (q ∷ d) k zero m u e g None h = not_refused (sym h)
  look (q ∷ d) k zero m u e g (Some r) h =
      let at : m ≡ k = omega arith in
      rw (same_good h, at) (here q d k (absent d (suc k) (right (gives (f q.first q.second) k) (numbered f (suc k) d) u) (λ i l s. omega (arith, same_Some m i (sym e ∙ s)))) (eqb a q.first && eqb b q.second))
  look (q ∷ d) k (suc n) m u e g x h =
      rw (told q k (left (gives (f q.first q.second) k) (numbered f (suc k) d) u) (λ s. omega (arith, same_Some m k (sym e ∙ s))) (eqb a q.first && eqb b q.second) refl)
      (look d (suc k) n m (right (gives (f q.first q.second) k) (numbered f (suc k) d) u) e (omega arith) x h)

-- the row of a number
pub row_there : (d : Dictionary) (n i : ℕ) → row_found_says (slice_get d n) i ≡ row_at d n i
unfolding row_at
row_there [] n i = refl
row_there (r ∷ d) zero i = refl
row_there (r ∷ d) (suc n) i = row_there d n i

chosen : (a b k p : ℕ) (r : Row) (d : Dictionary) (x : Numbered) (t : Bool) → pick t (good (record { number = k; row = r })) (find a b (suc k) p d) ≡ good x
    → (find a b (suc k) p d ≡ good x → x.number < suc k + length d) → x.number < suc k + length d
chosen a b k p r d x true e h = let g : k ≡ x.number = cc in omega arith
chosen a b k p r d x false e h = h e

-- a row that is found has a number below the count of rows
pub find_below : (a b k p : ℕ) (d : Dictionary) (x : Numbered) → find a b k p d ≡ good x → x.number < k + length d
unfolding find
find_below a b k p [] x e = not_refused (sym e)
find_below a b k p (r ∷ d) x e =
    omega (arith, chosen a b k p r d x (eqb a r.first && eqb b r.second) e (λ g. find_below a b (suc k) p d x g))

-- the promise of `find_row` has one answer, and that of `row_at`
pub found_one : (a b : ℕ) (x y : Option (ℕ × Row)) → ((p : ℕ) → found_says x p ≡ find a b 0 p rows) → ((p : ℕ) → found_says y p ≡ find a b 0 p rows) → x ≡ y
found_one a b (Some r) (Some q) h k = let e = same_good (h 0 ∙ sym (k 0)) in ap (λ (z : Numbered). Some (z.number, z.row)) e
found_one a b (Some r) None h k = not_refused (h 0 ∙ sym (k 0))
found_one a b None (Some q) h k = not_refused (k 0 ∙ sym (h 0))
found_one a b None None h k = refl

pub row_one : (n : ℕ) (x y : Option Row) → ((i : ℕ) → row_found_says x i ≡ row_at rows n i) → ((i : ℕ) → row_found_says y i ≡ row_at rows n i) → x ≡ y
row_one n (Some r) (Some q) h k = ap Some (same_good (h 0 ∙ sym (k 0)))
row_one n (Some r) None h k = not_refused (h 0 ∙ sym (k 0))
row_one n None (Some q) h k = not_refused (k 0 ∙ sym (h 0))
row_one n None None h k = refl
