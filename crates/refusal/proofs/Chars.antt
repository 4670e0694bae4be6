-- Characters of a list taken one by one are a stretch of it. By induction on their number.
-- Assumes nothing.
use Prim.Native.Nat.{ℕ, zero, suc, ◌+◌, ◌≤◌}
use mathlib.Core.List.{List, ◌∷◌}
use mathlib.Core.Path.{◌≡◌, refl, ap, ◌∙◌}
use native.Mathlib.Omega.{arith}
use lib.ListN.{length, take, drop, get_or}
use lib.Seq.{drop-cons}
use Rattle.refusal.specs.Chars.{chars_at}

pub chars_at_law : (n p : ℕ) (l : List ℕ) → p + n ≤ length l → take n (drop p l) ≡ chars_at n p l
chars_at_law zero p l h = refl
chars_at_law (suc n) p l h = ap (take (suc n)) (drop-cons l p 0 (omega arith)) ∙ ap (λ m. get_or l p 0 ∷ m) (chars_at_law n (suc p) l (omega arith))
