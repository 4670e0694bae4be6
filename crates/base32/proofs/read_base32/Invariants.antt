-- `read_base32` meets its contract. The invariant: the bytes so far and those of the characters left are the bytes of all.
use Rattle.std.proofs.Common.{◌≡◌, ◌*◌, ◌++◌, drop}
use Rattle.base32.specs.Base32.{decoded}
use Rattle.base32.proofs.read_base32.Given as goal

abbrev pub invariant-loop-group : goal.invariant-loop-group
invariant-loop-group l = l.bytes.items ++ decoded (drop (8 * l.group-index) l.chars) ≡ decoded l.chars
