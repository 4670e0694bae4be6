-- 230 if C40 mode will do, and else a character.
use Rattle.std.proofs.Common.{rules}
use Rattle.optimum.specs.Write.{move}
use Rattle.symbol_writer.proofs.writer.Writer.move_in_ascii.Goals as goal

pub returns-then-fits-clause-is : goal.returns-then-fits-clause-is
unfolding move
returns-then-fits-clause-is c = search rules

pub returns-clause-is : goal.returns-clause-is
unfolding move
returns-clause-is c = search rules
