-- `write` meets its contract: each piece over the tail behind those before it.
use Rattle.std.proofs.Common.{List, ℕ, ◌≡◌, [], ◌∷◌, ◌++◌, ◌+◌, ap, sym, ◌∙◌, length, append_assoc, length-append, arith, rules}
use Rattle.refusal.specs.Over.{over}
use Rattle.refusal.proofs.Over.{over_tail}
use Rattle.base32.specs.Base32.{encoded}
use Rattle.dictionary.specs.Rows.{rows}
use Rattle.header.specs.Header.{header_chars}
use Rattle.text_writer.specs.inner.Room.{zone_chars}
use Rattle.text_writer.proofs.Fills.{one_over}
use Rattle.text_writer.proofs.Texts.{header_long}
use Rattle.text_writer.proofs.Message.write.Goals as goal

pub returns : goal.returns
returns c =
    let s = c.args.self in
    let front = header_chars s.version s.header in
    let zone = zone_chars rows s.source.now s.fields.now in
    let sign = encoded s.signature.now in
    let long : length front ≡ c.size-h.result = header_long s.version s.header (search rules) (search rules) (search rules) (search rules) (search rules) ∙ sym c.size-h.ensures in
    let ahead = over_tail front zone c.args.out.now c.write_header.new.out c.write_zone.new.out c.size-h.result long c.write_header.ensures c.write_zone.ensures.written in
    let marked = one_over (front ++ zone) c.args.out.now _ (c.size-h.result + c.write_zone.result) 31 ahead (omega (arith, long, length-append front zone, c.write_zone.ensures.is)) (omega (arith, c.requires.2, c.size-h.ensures, c.write_zone.ensures.is)) in
    over_tail ((front ++ zone) ++ (31 ∷ [])) sign c.args.out.now _ _ (c.size-h.result + c.write_zone.result + 1) (omega (arith, long, length-append (front ++ zone) (31 ∷ []), length-append front zone, c.write_zone.ensures.is)) marked c.write_base32.ensures
    ∙ ap (λ (l : List ℕ). over l c.args.out.now) (append_assoc (front ++ zone) (31 ∷ []) sign ∙ append_assoc front zone (31 ∷ sign))
