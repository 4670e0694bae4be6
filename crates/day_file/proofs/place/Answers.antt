-- What is left is to test the length that stands in the record.
use borrow.Author.Tests.{le-leb, lt-leb}
use Rattle.std.proofs.Common.{rules}
use Rattle.day_file.proofs.Numbered.{found_at, placing_is}
use Rattle.day_file.proofs.place.Goals as goal

pub returns-then-length-gt-LIMIT : goal.returns-then-length-gt-LIMIT
returns-then-length-gt-LIMIT c =
    let n = c.two_at-length.result in
    rw (c.at.ensures, placing_is _ _ _ _ (found_at _ _ _ _ (search rules) c.in_ok-start.ensures.answer) n c.two_at-length.ensures.is, lt-leb n 1000 c.if-length-gt-LIMIT.true)

pub returns : goal.returns
returns c =
    let n = c.two_at-length.result in
    rw (placing_is _ _ _ _ (found_at _ _ _ _ (search rules) c.in_ok-start.ensures.answer) n c.two_at-length.ensures.is, le-leb n 1000 c.if-length-gt-LIMIT.false)
