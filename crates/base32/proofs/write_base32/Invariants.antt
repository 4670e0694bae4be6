-- `write_base32` meets its contract. The invariant: the characters so far and those of the bytes left are the characters of all, and
-- the output behind them is as it was.
use Rattle.std.proofs.Common.{◌≡◌, ◌*◌, ◌++◌, take, drop}
use Rattle.base32.specs.Base32.{encoded}
use Rattle.base32.proofs.write_base32.Given as goal

abbrev pub invariant-loop-i : goal.invariant-loop-i
invariant-loop-i l = record { whole : take (8 * l.i) l.out ++ encoded (drop (5 * l.i) l.bytes) ≡ encoded l.bytes; behind : drop (8 * l.i) l.out ≡ drop (8 * l.i) l.initial.out }
