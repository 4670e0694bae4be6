-- Eight stores side by side are one row put into the slice.
use Rattle.symbol_writer.proofs.Rows.{put_is}
use Rattle.symbol_writer.proofs.costs.Costs.store.Goals as goal

pub returns : goal.returns
returns c = put_is c.args.work.now c.args.at c.args.self c.requires
