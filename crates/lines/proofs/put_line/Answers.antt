-- A count above zero has a line: a name, a number and an end of line.
use mathlib.Core.List.{[], ◌∷◌, ◌++◌}
use mathlib.Core.Path.{ap, ◌∙◌}
use native.Mathlib.Omega.{arith}
use lib.ListN.{length}
use Rattle.day_file.specs.Pieces.{put_at}
use Rattle.lines.specs.Lines.{decimal, name_of}
use Rattle.lines.proofs.Joined.{next_put, a_line}
use Rattle.lines.proofs.put_line.Goals as goal

pub returns-clause-lent : goal.returns-clause-lent
returns-clause-lent c =
    let line = a_line c.args.slot c.args.count (omega (arith, c.if-count-eq0.false)) in
    let name = c.put_name-end in
    let count = c.put_number.ensures.lent ∙ ap (λ n. put_at name.new.out name.result (decimal n ++ (10 ∷ []))) c.from.ensures in
    rw line (next_put c.args.out.now c.args.at (name_of c.args.slot) _ name.new.out _ name.result name.ensures.lent name.ensures.end count (omega (arith, c.requires, ap length line)))
