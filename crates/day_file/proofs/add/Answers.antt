-- The record stands where the trailer stood, and the new trailer behind it.
use mathlib.Core.Path.{◌∙◌}
use native.Mathlib.Omega.{arith}
use Rattle.std.proofs.Common.{rules}
use Rattle.day_file.proofs.Adding.{sizes, add_full, added, trailer_fits, slice_then}
use Rattle.day_file.proofs.add.Goals as goal

pub overflow_add-len : goal.overflow_add-len
overflow_add-len c = omega (arith, c.if-n-gt-LIMIT.false, sizes _ _ c.args.text.now _ (search rules) c.in_ok-opened.ensures)

pub returns-then-len-n-gt-MOST_BYTES-clause-answer : goal.returns-then-len-n-gt-MOST_BYTES-clause-answer
returns-then-len-n-gt-MOST_BYTES-clause-answer c =
    rw (c.at-then-len-n-gt-MOST_BYTES.ensures, add_full _ _ c.args.text.now _ (search rules) c.in_ok-opened.ensures c.if-n-gt-LIMIT.false (omega (arith, c.if-len-n-gt-MOST_BYTES.true)))

pub returns-then-len-n-gt-MOST_BYTES-clause-lent : goal.returns-then-len-n-gt-MOST_BYTES-clause-lent
returns-then-len-n-gt-MOST_BYTES-clause-lent c = rw (add_full _ _ c.args.text.now _ (search rules) c.in_ok-opened.ensures c.if-n-gt-LIMIT.false (omega (arith, c.if-len-n-gt-MOST_BYTES.true)))

pub put_record-requires : goal.put_record-requires
put_record-requires c = omega (arith, c.if-n-gt-LIMIT.false, c.if-len-n-gt-MOST_BYTES.false, sizes _ _ c.args.text.now _ (search rules) c.in_ok-opened.ensures)

pub overflow_add-opened : goal.overflow_add-opened
overflow_add-opened c = omega (arith, sizes _ _ c.args.text.now _ (search rules) c.in_ok-opened.ensures)

pub put_trailer-requires : goal.put_trailer-requires
put_trailer-requires c = trailer_fits _ _ _ _ (search rules) c.in_ok-opened.ensures c.if-n-gt-LIMIT.false c.if-len-n-gt-MOST_BYTES.false _ c.put_record.ensures

pub returns-clause-answer : goal.returns-clause-answer
returns-clause-answer c = added _ _ _ _ (search rules) c.in_ok-opened.ensures c.if-n-gt-LIMIT.false c.if-len-n-gt-MOST_BYTES.false

pub returns-clause-lent : goal.returns-clause-lent
returns-clause-lent c = c.put_trailer.ensures ∙ slice_then _ _ _ _ (search rules) c.in_ok-opened.ensures c.if-n-gt-LIMIT.false c.if-len-n-gt-MOST_BYTES.false _ c.put_record.ensures
