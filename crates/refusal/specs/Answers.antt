-- What reading and writing answer: a value, or a refusal with its number and place. `do` runs checks in the paper's order.
use Rattle.std.specs.Prelude.{ℕ, Bool, true, false}

pub data Answer (A : Type 0) : Type 0 where
  good : A → Answer A
  refused : (number place : ℕ) → Answer A

-- the first refusal counts
abbrev pub ◌>>=◌ : {A B : Type 0} → Answer A → (A → Answer B) → Answer B
◌>>=◌ (good a) f = f a
◌>>=◌ (refused k p) f = refused k p

abbrev pub ◌>>◌ : {A B : Type 0} → Answer A → Answer B → Answer B
◌>>◌ (good a) y = y
◌>>◌ (refused k p) y = refused k p

infixl 10 ◌>>=◌
infixl 10 ◌>>◌
-- the refusal k at the place p, unless the test holds
abbrev pub check : Bool → (number place : ℕ) → Answer (Unit {0})
check true k p = good tt
check false k p = refused k p
