-- `feed_one` meets its contract: the words already changed, and behind them what the others will be, are the register with the word taken in.
use Prim.Native.Nat.{◌+◌}
use lib.Bits.{bit_xor}
use lib.ListN.{drop, get_or, take}
use mathlib.Core.List.{[], ◌++◌, ◌∷◌}
use mathlib.Core.Path.{◌≡◌}
use Rattle.galois.specs.Words.{plus, scale}
use Rattle.check_words.specs.Register.{feed}
use Rattle.check_words.proofs.feed_one.Given as goal

abbrev pub invariant-loop-i : goal.invariant-loop-i
invariant-loop-i l =
    take l.i l.r ++ plus (drop (l.i + 1) l.r ++ (0 ∷ [])) (scale (bit_xor (get_or l.initial.r 0 0) l.d) (drop l.i l.g)) ≡ feed l.g l.initial.r l.d
