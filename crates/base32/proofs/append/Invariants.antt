-- `append` meets its contract. The invariant: those passed stand behind the bytes that were there.
use Rattle.std.proofs.Common.{◌≡◌, ◌++◌, take}
use Rattle.base32.proofs.append.Given as goal

abbrev pub invariant-loop-byte : goal.invariant-loop-byte
invariant-loop-byte l = l.bytes.items ≡ l.initial.bytes.items ++ take l.byte-index l.more
