-- The fields of an accepted text fit the lent list.
use Rattle.std.proofs.Common.{sym, ap, ◌∙◌, length, rules}
use Rattle.refusal.specs.Said.{says, turned}
use Rattle.text_reader.specs.Answers.{received}
use Rattle.ddoc.proofs.Stored.{fields_fit}
use Rattle.ddoc.proofs.ddoc_read_text.Goals as goal

pub put_all-requires : goal.put_all-requires
put_all-requires c =
    let told = sym c.read_text.ensures.says ∙ ap (λ r. turned received (says r)) c.in-Ok.is in
    let fit = fields_fit (length c.args.fields.now) c.args.text.now (received c.in-Ok.read) told in
    search (rules, fit)
