use Rattle.std.proofs.Common.{List, ℕ, ◌≡◌, ap, sym, ◌∙◌, length, get_or, arith, rules}
use Rattle.refusal.specs.Answers.{Answer, good}
use Rattle.dictionary.specs.Rows.{rows}
use Rattle.header.specs.Header.{version_of}
use Rattle.text_writer.specs.Writing.{message_of, written_over}
use Rattle.text_writer.proofs.Texts.{header_long, accepted, chars_long, written_whole}
use Rattle.text_writer.proofs.write_text.Goals as goal

pub returns : goal.returns
returns c =
    let s = c.args in
    let v = c.in_ok-version.version in
    let known : version_of (get_or s.header.version 0 0) (get_or s.header.version 1 0) ≡ good v = grind arith in
    let a = accepted rows v s.header s.fields.now s.signature.now s.source.now known c.in_ok-n.ensures in
    let m = message_of s.header s.fields.now s.signature.now in
    let whole = written_whole m s.source.now _ (length s.out.now) a.written (omega (arith, a.long)) (omega (arith, a.long)) in
    (rw whole (ap good (sym a.long)), c.write.ensures ∙ ap (λ (x : Answer (List ℕ)). written_over x s.out.now) (sym whole))

pub write-requires : goal.write-requires
write-requires c =
    let s = c.args in
    let v = c.in_ok-version.version in
    let known : version_of (get_or s.header.version 0 0) (get_or s.header.version 1 0) ≡ good v = grind arith in
    let a = accepted rows v s.header s.fields.now s.signature.now s.source.now known c.in_ok-n.ensures in
    let long = header_long v s.header (search rules) (search rules) (search rules) (search rules) (search rules) in
    (a.inside, a.signed, omega (arith, a.long, chars_long v s.header s.fields.now s.signature.now s.source.now long, c.if-n-out.false))
