-- `row_at` meets its contract: the table is the rows.
use mathlib.Core.Path.{ap, ◌∙◌}
use Rattle.std.proofs.Common.{arith}
use Rattle.std.proofs.lemmas.Grind.{common_steps}
use Rattle.std.proofs.lemmas.Option.{gets}
use Rattle.dictionary.specs.inner.Lookup.{row_found_says}
use Rattle.dictionary.specs.Rows.{rows}
use Rattle.dictionary.proofs.Rows.{row_there}
use Rattle.dictionary.proofs.row_at.Goals as goal

pub returns : goal.returns
returns c = λ i. rw c.copied.ensures (ap (λ x. row_found_says x i) (grind (arith, common_steps, gets)) ∙ row_there rows c.args.n i)
