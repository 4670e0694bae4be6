-- Three pieces, the first of them at the front.
use mathlib.Core.List.{[], ◌∷◌, ◌++◌, append_assoc}
use mathlib.Core.Path.{ap, ◌∙◌}
use native.Mathlib.Omega.{arith}
use lib.ListN.{length, length-append}
use Rattle.refusal.specs.Over.{over}
use Rattle.day_file.specs.Pieces.{put_at}
use Rattle.lines.specs.Lines.{decimal, refused_word}
use Rattle.lines.proofs.Joined.{file_most, next_put, over_put}
use Rattle.lines.proofs.put_file.Goals as goal

pub put_number-at-requires : goal.put_number-at-requires
put_number-at-requires c = omega (arith, file_most c.args.place c.args.number (omega arith) (omega arith), c.requires, c.put_word-at.ensures.end, c.put_word-at.auto.out)

pub put_number-requires : goal.put_number-requires
put_number-requires c = rw c.from.ensures (omega (arith, file_most c.args.place c.args.number (omega arith) (omega arith), c.requires, c.put_word-at.ensures.end, c.put_word-at.auto.out, c.put_number-at.ensures.end, c.put_number-at.auto.out))

pub returns-clause-lent : goal.returns-clause-lent
returns-clause-lent c =
    let l = c.args.out.now in
    let file = c.put_word-at in
    let place = c.put_number-at in
    let most = file_most c.args.place c.args.number (omega arith) (omega arith) in
    let word = 102 ∷ 105 ∷ 108 ∷ 101 ∷ 32 ∷ [] in
    let us = decimal c.args.place ++ (32 ∷ refused_word) in
    let vs = decimal c.args.number ++ (10 ∷ []) in
    let number = c.put_number.ensures.lent ∙ ap (λ n. put_at place.new.out place.result (decimal n ++ (10 ∷ []))) c.from.ensures in
    let first = next_put l 0 word us file.new.out place.new.out file.result file.ensures.lent file.ensures.end place.ensures.lent (omega (arith, c.requires, most)) in
    next_put l 0 (word ++ us) vs place.new.out _ place.result first (omega (arith, file.ensures.end, place.ensures.end)) number (omega (arith, c.requires, most, length-append us vs))
    ∙ over_put l (word ++ us ++ vs) ∙ ap (λ x. over (word ++ x) l) (append_assoc (decimal c.args.place) (32 ∷ refused_word) vs)

pub returns-clause-small : goal.returns-clause-small
returns-clause-small c = omega (arith, file_most c.args.place c.args.number (omega arith) (omega arith), c.put_word-at.ensures.end, c.put_number-at.ensures.end, c.put_number.ensures.end, ap (λ n. length (decimal n ++ (10 ∷ []))) c.from.ensures)
