use mathlib.Core.Path.{◌∙◌}
use lib.ListN.{drop}
use Rattle.symbol_writer.specs.Rows.{state_of}
use Rattle.symbol_writer.proofs.Rows.{allowed}
use Rattle.symbol_writer.proofs.writer.Writer.fits.Goals as goal

pub returns : goal.returns
returns c = c.allows.ensures ∙ allowed c.args.self.now.padded (drop c.args.i c.args.self.now.text.now) (state_of c.args.column) c.args.n _ c.least.ensures
