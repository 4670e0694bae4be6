-- At each turn the pads from the index i on have the first wrong pad of the symbol.
use Rattle.std.proofs.Common.{◌≡◌, drop}
use Rattle.codeword.specs.Pads.{wrong_from, first_wrong}
use Rattle.codeword.proofs.first_wrong_pad.Given as goal

abbrev pub invariant-loop-i : goal.invariant-loop-i
invariant-loop-i l = wrong_from l.used l.i (drop l.i l.codewords) ≡ first_wrong l.used l.codewords
