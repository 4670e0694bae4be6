-- The trailer has the start of the record, and its first byte says whether it is live.
use mathlib.Core.Path.{refl, sym}
use native.Mathlib.Omega.{arith}
use Rattle.std.proofs.Common.{rules}
use Rattle.day_file.proofs.Numbered.{opened_is, known, entry_fits, starts_at, not_found, is_found}
use Rattle.day_file.proofs.find.Goals as goal

pub start-start-requires : goal.start-start-requires
start-start-requires c = (entry_fits _ _ _ _ (known _ _ _ (search rules) c.in_ok-opened.ensures) _ c.if-opened-number.false).0

pub bounds-file-start : goal.bounds-file-start
bounds-file-start c =
    let w = starts_at _ _ _ _ (known _ _ _ (search rules) c.in_ok-opened.ensures) _ c.if-opened-number.false _ c.start-start.ensures.is in
    omega (arith, w.room)

pub returns-then-file-start-ne-LIVE-clause-answer : goal.returns-then-file-start-ne-LIVE-clause-answer
returns-then-file-start-ne-LIVE-clause-answer c =
    let w = starts_at _ _ _ _ (known _ _ _ (search rules) c.in_ok-opened.ensures) _ c.if-opened-number.false _ c.start-start.ensures.is in
    rw (c.at-then-file-start-ne-LIVE.ensures, not_found _ c.args.len _ (opened_is _ _ c.in_ok-opened.ensures) _ _ w (λ q. c.if-file-start-ne-LIVE.true (rw q refl)))

pub returns-clause-answer : goal.returns-clause-answer
returns-clause-answer c =
    let w = starts_at _ _ _ _ (known _ _ _ (search rules) c.in_ok-opened.ensures) _ c.if-opened-number.false _ c.start-start.ensures.is in
    sym (is_found _ c.args.len _ (opened_is _ _ c.in_ok-opened.ensures) _ _ w c.if-file-start-ne-LIVE.false)

pub returns-clause-room : goal.returns-clause-room
returns-clause-room c =
    let w = starts_at _ _ _ _ (known _ _ _ (search rules) c.in_ok-opened.ensures) _ c.if-opened-number.false _ c.start-start.ensures.is in
    omega (arith, w.room)
