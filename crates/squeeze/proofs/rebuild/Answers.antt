-- The live records gathered, zeros behind them, their trailer over the zeros.
use mathlib.Core.Path.{◌∙◌}
use native.Mathlib.Omega.{arith}
use Rattle.std.proofs.Common.{rules}
use Rattle.squeeze.proofs.Rebuilt.{sizes, trailer_fits, whole_is}
use Rattle.squeeze.proofs.rebuild.Goals as goal

pub slice_bounds-fill-count : goal.slice_bounds-fill-count
slice_bounds-fill-count c = omega (arith, sizes _ _ _ (search rules) c.requires.0 _ c.requires.1 _ c.gather-to.ensures.answer)

pub slice_bounds-fill-start : goal.slice_bounds-fill-start
slice_bounds-fill-start c = omega (arith, sizes _ _ _ (search rules) c.requires.0 _ c.requires.1 _ c.gather-to.ensures.answer, c.gather-to.auto.file)

pub slice_bounds-fill-end : goal.slice_bounds-fill-end
slice_bounds-fill-end c = omega (arith, sizes _ _ _ (search rules) c.requires.0 _ c.requires.1 _ c.gather-to.ensures.answer, c.gather-to.auto.file)

pub put_trailer-requires : goal.put_trailer-requires
put_trailer-requires c =
    let g = c.gather-to.ensures in
    let size = sizes _ _ _ (search rules) c.requires.0 _ c.requires.1 _ g.answer in
    trailer_fits _ _ _ (search rules) c.requires.0 _ c.requires.1 _ g.answer _ g.front g.behind c.gather-to.auto.file _ (omega (arith, size)) (omega (arith, size, c.gather-to.auto.file)) _ (c.fill.ensures.after (λ y e. e))

pub overflow_mul-result : goal.overflow_mul-result
overflow_mul-result c = omega (arith, sizes _ _ _ (search rules) c.requires.0 _ c.requires.1 _ c.gather-to.ensures.answer)

pub overflow_add-result : goal.overflow_add-result
overflow_add-result c = omega (arith, sizes _ _ _ (search rules) c.requires.0 _ c.requires.1 _ c.gather-to.ensures.answer)

pub overflow_add-result-2 : goal.overflow_add-result-2
overflow_add-result-2 c = omega (arith, sizes _ _ _ (search rules) c.requires.0 _ c.requires.1 _ c.gather-to.ensures.answer)

pub returns-clause-answer : goal.returns-clause-answer
returns-clause-answer c = (sizes _ _ _ (search rules) c.requires.0 _ c.requires.1 _ c.gather-to.ensures.answer).0

pub returns-clause-lent : goal.returns-clause-lent
returns-clause-lent c =
    let g = c.gather-to.ensures in
    c.put_trailer.ensures ∙ whole_is _ _ _ (search rules) c.requires.0 _ c.requires.1 _ g.answer _ g.front g.behind c.gather-to.auto.file _ (c.fill.ensures.after (λ y e. e))
