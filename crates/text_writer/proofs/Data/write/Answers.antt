use Rattle.std.proofs.Common.{ℕ, List, length-append, ◌≡◌, ap, ◌∙◌, ◌+◌, [], ◌∷◌, ◌++◌, length, arith, rules}
use Rattle.refusal.specs.Over.{over}
use Rattle.text.specs.Text.{ending}
use Rattle.text_writer.proofs.Fills.{one_over}
use Rattle.text_writer.proofs.Data.write.Goals as goal

pub returns-in-Some-clause-written : goal.returns-in-Some-clause-written
returns-in-Some-clause-written c =
    let s = c.args.self in
    let ends : c.in-Some.mark ∷ [] ≡ ending s.row s.chars.now s.cut = grind arith in
    one_over (s.row.first ∷ s.row.second ∷ s.chars.now) c.args.out.now _ (length s.chars.now + 2) c.in-Some.mark (search rules) (omega arith) (omega (arith, c.requires.1, ap length ends, length-append s.chars.now (ending s.row s.chars.now s.cut)))
    ∙ ap (λ (l : List ℕ). over (s.row.first ∷ s.row.second ∷ (s.chars.now ++ l)) c.args.out.now) ends
