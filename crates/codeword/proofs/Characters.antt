-- The set and the number of a character are right: in that set, that number is the character. One computed test over the 128.
-- Assumes nothing.
use Prim.Native.Nat.{ℕ, ◌<◌}
use mathlib.Core.Bool.{Bool, false}
use mathlib.Core.Path.{◌≡◌, ap}
use lib.Dec.{T, ltb, eqb, eqb→eq, ltb→lt}
use Rattle.refusal.proofs.Tests.{below, at_below}
use Rattle.codeword.specs.declared.Value.{Value}
use Rattle.codeword.specs.declared.Value.TheVariants.{Char, Shift, Unused}
use Rattle.codeword.specs.Meanings.{value}
use Rattle.codeword.specs.Characters.{set_of, number_of}

is_char : ℕ → Value → Bool
is_char c (Char d) = eqb d c
is_char c (Shift s) = false
is_char c Unused = false

from_is_char : (c : ℕ) (x : Value) → T (is_char c x) → x ≡ Char c
unfolding is_char
from_is_char c (Char d) t = ap Char (eqb→eq d c t)
from_is_char c (Shift s) t = absurd t
from_is_char c Unused t = absurd t

all_turned : T (below 128 (λ c. is_char c (value (set_of c) (number_of c))))
unfolding is_char value set_of number_of
all_turned = tt

pub value_turned : (c : ℕ) → c < 128 → value (set_of c) (number_of c) ≡ Char c
value_turned c h =
    from_is_char c (value (set_of c) (number_of c)) (at_below 128 (λ c. is_char c (value (set_of c) (number_of c))) all_turned c h)

all_low : T (below 128 (λ c. ltb (number_of c) 40))
unfolding number_of
all_low = tt

pub number_low : (c : ℕ) → c < 128 → number_of c < 40
number_low c h = ltb→lt (number_of c) 40 (at_below 128 (λ c. ltb (number_of c) 40) all_low c h)
