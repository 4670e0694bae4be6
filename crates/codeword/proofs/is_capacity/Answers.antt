-- `is_capacity` meets its contract: the library's search is `among`.
use mathlib.Core.Path.{◌∙◌}
use Rattle.refusal.proofs.Among.{any_among}
use Rattle.codeword.specs.Sizes.{capacities}
use Rattle.codeword.proofs.is_capacity.Goals as goal

pub returns : goal.returns
unfolding capacities
returns c = c.contains.ensures.value ∙ any_among c.args.n capacities
