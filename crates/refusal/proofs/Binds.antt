-- An answer that is good came by good answers alone, and a test that holds by tests that hold: each law hands on what a line of a
-- `do` block says, so that a proof has a line for a line of the definition. By cases on the answer or the test.
-- Assumes nothing.
use Prim.Native.Nat.{ℕ}
use mathlib.Core.Bool.{Bool, true, false, ◌&&◌, ◌||◌}
use mathlib.Core.Path.{◌≡◌, refl}
use native.Mathlib.Omega.{arith}
use Rattle.refusal.specs.Answers.{Answer, good, refused, ◌>>=◌, ◌>>◌, check}

pub never : {A : Type 0} {P : Type 0} {k p : ℕ} {a : A} → refused k p ≡ good a → P
never e = let z : ◌≡◌ {A = ℕ} 0 1 = cc in absurd (omega arith)

pub not_refused : {A P : Type 0} {a : A} {k p : ℕ} → good a ≡ refused k p → P
not_refused e = let z : ◌≡◌ {A = ℕ} 0 1 = cc in absurd (omega arith)

pub same_good : {A : Type 0} {a b : A} → good a ≡ good b → a ≡ b
same_good e = cc

pub by_bind : {A B P : Type 0} (x : Answer A) (f : A → Answer B) {y : B} → (x >>= f) ≡ good y → ((a : A) → x ≡ good a → f a ≡ good y → P) → P
by_bind (good a) f e k = k a refl e
by_bind (refused n p) f e k = never e

pub by_check : {B P : Type 0} (b : Bool) (n p : ℕ) (x : Answer B) {y : B} → (check b n p >> x) ≡ good y → (b ≡ true → x ≡ good y → P) → P
by_check true n p x e k = k refl e
by_check false n p x e k = never e

pub by_and : {P : Type 0} (a b : Bool) → (a && b) ≡ true → (a ≡ true → b ≡ true → P) → P
by_and true b e k = k refl e
by_and false b e k = let z : ◌≡◌ {A = Bool} false true = e in k (cc) (cc)

pub by_seq : {A B P : Type 0} (x : Answer A) (y : Answer B) {z : B} → (x >> y) ≡ good z → ((a : A) → x ≡ good a → y ≡ good z → P) → P
by_seq (good a) y e k = k a refl e
by_seq (refused n p) y e k = never e

pub clash : {P : Type 0} → false ≡ true → P
clash e = let z : ◌≡◌ {A = ℕ} 0 1 = cc in absurd (omega arith)

pub by_or : {P : Type 0} (a b : Bool) → (a || b) ≡ true → (a ≡ true → P) → (b ≡ true → P) → P
by_or true b e f g = f refl
by_or false b e f g = g e

pub or_right : (a b : Bool) → b ≡ true → (a || b) ≡ true
or_right true b e = refl
or_right false b e = e

-- two tests that both hold
pub left : (a b : Bool) → (a && b) ≡ true → a ≡ true
left true b e = refl
left false b e = e

pub right : (a b : Bool) → (a && b) ≡ true → b ≡ true
right true b e = e
right false b e = clash e
