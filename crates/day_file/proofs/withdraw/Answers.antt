-- The state of the record is the byte at its start.
use mathlib.Core.Path.{sym, ap, ◌∙◌}
use Rattle.std.proofs.Common.{rules}
use Rattle.day_file.specs.Promise.{slice_after}
use Rattle.day_file.proofs.Numbered.{found_at, withdrawing_is, gone}
use Rattle.day_file.proofs.withdraw.Goals as goal

pub returns-clause-lent : goal.returns-clause-lent
returns-clause-lent c =
    let f = found_at _ _ _ _ (search rules) c.in_ok-start.ensures.answer in
    gone _ _ _ _ f ∙ sym (ap (λ x. slice_after x c.args.file.now) (withdrawing_is _ _ _ _ f))
