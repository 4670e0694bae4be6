-- The invariant: the codewords so far are stored, and the rest are those of the text from the place on.
-- The measure is the number of codewords left.
use Prim.Native.Nat.{◌-◌}
use Rattle.symbol_writer.proofs.Output.{Writing}
use Rattle.symbol_writer.proofs.writer.Writer.put_codewords.Given as goal

abbrev pub invariant-loop-done : goal.invariant-loop-done
invariant-loop-done l = Writing l.self.padded l.self.text.now l.n l.initial.symbol l.symbol l.mode l.i l.done

abbrev pub decreases-loop-done : goal.decreases-loop-done
decreases-loop-done l = l.n - l.done
