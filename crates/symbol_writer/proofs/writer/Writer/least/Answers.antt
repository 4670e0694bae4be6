-- The two cells of the column are the two costs of its state.
use Rattle.symbol_writer.proofs.Rows.{row_is}
use Rattle.symbol_writer.proofs.writer.Writer.least.Goals as goal

pub returns : goal.returns
returns c =
    rw c.place_in_row.ensures
    (row_is c.args.self.now.padded c.args.self.now.text.now c.args.self.now.work.now c.args.self.now.rows c.args.i c.requires c.args.column)
