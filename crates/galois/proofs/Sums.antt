-- The laws of the sum, for every number: the library's of exclusive or, and what follows from them.
-- Assumes nothing.
use Prim.Native.Nat.{◌<◌, ℕ}
use lib.Bits.{xor_assoc, xor_comm, xor_lt, xor_self, xor_zero_r}
use mathlib.Core.Path.{◌∙◌, ◌≡◌, ap, refl, sym}
use Rattle.galois.specs.Field.{◌⊕◌}

pub ⊕-assoc : (a b c : ℕ) → (a ⊕ b) ⊕ c ≡ a ⊕ (b ⊕ c)
unfolding ◌⊕◌
⊕-assoc = xor_assoc

pub ⊕-comm : (a b : ℕ) → a ⊕ b ≡ b ⊕ a
unfolding ◌⊕◌
⊕-comm = xor_comm

pub ⊕-zero-l : (a : ℕ) → 0 ⊕ a ≡ a
unfolding ◌⊕◌
⊕-zero-l a = refl

pub ⊕-zero-r : (a : ℕ) → a ⊕ 0 ≡ a
unfolding ◌⊕◌
⊕-zero-r = xor_zero_r

pub ⊕-self : (a : ℕ) → a ⊕ a ≡ 0
unfolding ◌⊕◌
⊕-self = xor_self

pub ⊕-lt : (a b : ℕ) → a < 256 → b < 256 → a ⊕ b < 256
unfolding ◌⊕◌
⊕-lt = xor_lt 8

pub ⊕-left-comm : (a b c : ℕ) → a ⊕ (b ⊕ c) ≡ b ⊕ (a ⊕ c)
⊕-left-comm a b c = sym (⊕-assoc a b c) ∙ ap (λ (x : ℕ). x ⊕ c) (⊕-comm a b) ∙ ⊕-assoc b a c

pub ⊕-cancel : (a b : ℕ) → a ⊕ (a ⊕ b) ≡ b
⊕-cancel a b = sym (⊕-assoc a a b) ∙ ap (λ (x : ℕ). x ⊕ b) (⊕-self a) ∙ ⊕-zero-l b

-- all that holds of sums by these laws
pub ruleset sums = (⊕-assoc, ⊕-comm, ⊕-left-comm, ⊕-zero-l, ⊕-zero-r, ⊕-self, ⊕-cancel)

pub ⊕-swap : (a b c d : ℕ) → (a ⊕ b) ⊕ (c ⊕ d) ≡ (a ⊕ c) ⊕ (b ⊕ d)
⊕-swap a b c d = simp sums

pub ⊕-zero-eq : (a b : ℕ) → a ⊕ b ≡ 0 → a ≡ b
⊕-zero-eq a b e = sym (⊕-zero-r a) ∙ ap (λ (x : ℕ). a ⊕ x) (sym e) ∙ ⊕-cancel a b
