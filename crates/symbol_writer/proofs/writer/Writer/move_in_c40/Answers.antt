-- 254 if no shift waits and ASCII mode will do, and else a pair.
use mathlib.Core.Bool.{false, not, ◌&&◌}
use mathlib.Core.Path.{◌≡◌, sym, ◌∙◌}
use Prim.Native.Nat.{◌-◌}
use native.Mathlib.Omega.{arith}
use lib.ListN.{drop}
use Rattle.codeword.specs.Meanings.{unfinished}
use Rattle.optimum.specs.Cost.{asc}
use Rattle.optimum.specs.Write.{fits}
use Rattle.symbol_writer.proofs.Greedy.{unlatched, not_unlatched}
use Rattle.symbol_writer.proofs.writer.Writer.move_in_c40.Goals as goal
use Rattle.symbol_writer.proofs.writer.Writer.move_in_c40.Goals.{else-not-is_unfinished-via-then-not-is_unfinished+else-fits, else-not-is_unfinished-via-else-not-is_unfinished}

pub returns-then-fits-clause-is : goal.returns-then-fits-clause-is
returns-then-fits-clause-is c =
    rw c.one.ensures
    (unlatched c.args.self.now.padded c.args.n c.args.set _ c.requires.1 (sym c.is_unfinished.ensures ∙ c.if-not-is_unfinished.true) (sym c.fits.ensures ∙ c.if-fits.true))

pub returns-clause-is : goal.returns-clause-is
returns-clause-is c =
    let stays : (not (unfinished c.args.set) && fits c.args.self.now.padded (drop c.args.i c.args.self.now.text.now) asc c.args.n) ≡ false =
    elim c.else-not-is_unfinished.branch [
      | else-not-is_unfinished-via-then-not-is_unfinished+else-fits w ↦ rw (← c.is_unfinished.ensures, w.if-not-is_unfinished.true, ← w.fits.ensures, w.if-fits.false)
      | else-not-is_unfinished-via-else-not-is_unfinished w ↦ rw (← c.is_unfinished.ensures, w.if-not-is_unfinished.false)
    ] in
    c.pair_of_codewords.ensures.is ∙ not_unlatched c.args.self.now.padded c.args.n c.args.set _ (c.args.n - 1) (omega (arith, c.requires.1)) stays
