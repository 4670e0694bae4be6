-- `read_group` meets its contract: the five bytes are the group's.
use Rattle.std.proofs.Common.{rules}
use Rattle.base32.proofs.Groups.{eight_chars}
use Rattle.base32.proofs.read_group.Goals as goal

pub returns : goal.returns
returns c =
    eight_chars c.args.chars.now _ _ _ _ _ _ _ _ (search rules) c.value_of-a.ensures.is c.value_of-b.ensures.is c.value_of-c.ensures.is c.value_of-d.ensures.is
    c.value_of-e.ensures.is c.value_of-f.ensures.is c.value_of-g.ensures.is c.value_of-h.ensures.is
