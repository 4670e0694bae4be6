-- An answer is named where each number that it refuses with is above 0, so that the number 0 can say "accepted". What is made of named
-- answers, one behind the other, is named.
-- Assumes nothing.
use Prim.Native.Nat.{ℕ, ◌<◌}
use mathlib.Core.Bool.{Bool, true, false}
use mathlib.Core.Path.{◌≡◌, refl}
use native.Mathlib.Omega.{arith}
use Rattle.refusal.specs.Pick.{pick}
use Rattle.refusal.specs.Answers.{Answer, good, refused, ◌>>=◌, ◌>>◌, check}
use Rattle.refusal.proofs.Binds.{not_refused}

pub record Named {A : Type 0} (x : Answer A) : Type 0 where
  pub number : (k p : ℕ) → x ≡ refused k p → 0 < k

pub fine : {A : Type 0} (a : A) → Named (good a)
fine a = record { number = λ k p e. not_refused e }

pub with_number : {A : Type 0} (n q : ℕ) → 0 < n → Named {A = A} (refused n q)
with_number n q h = record { number = λ k p e. let z : n ≡ k = cc in omega arith }

pub bind : {A B : Type 0} (x : Answer A) (f : A → Answer B) → Named x → ((a : A) → Named (f a)) → Named (x >>= f)
bind (good a) f n g = g a
bind (refused k p) f n g = with_number k p (n.number k p refl)

pub seq : {A B : Type 0} (x : Answer A) (y : Answer B) → Named x → Named y → Named (x >> y)
seq (good a) y n m = m
seq (refused k p) y n m = with_number k p (n.number k p refl)

pub check_then : {B : Type 0} (b : Bool) (k p : ℕ) (y : Answer B) → 0 < k → Named y → Named (check b k p >> y)
check_then true k p y h n = n
check_then false k p y h n = with_number k p h

pub choose : {A : Type 0} (b : Bool) (x y : Answer A) → Named x → Named y → Named (pick b x y)
choose true x y n m = n
choose false x y n m = m
