use Rattle.std.proofs.Common.{ap, length, length-drop, arith}
use Rattle.std.proofs.lemmas.List.Elements.{All-get_or}
use Rattle.refusal.proofs.Over.{tail_is}
use Rattle.dictionary.specs.inner.Lookup.{no_field}
use Rattle.dictionary.specs.Rows.{rows}
use Rattle.text_writer.specs.inner.Room.{lies_in}
use Rattle.text_writer.proofs.Fills.{more_long, zone_over, zone_fits}
use Rattle.text_writer.proofs.write_zone.Goals as goal

pub write_field-p-requires : goal.write_field-p-requires
write_field-p-requires c =
    let s = c.args in
    let l = c.loop-field in
    let i = l.field-index in
    let fits = zone_fits rows s.source.now s.fields.now i c.loop-field-test.true in (
      All-get_or (lies_in (length s.source.now)) s.fields.now i no_field c.loop-field-test.true c.requires.0,
      omega (arith, c.requires.1, l.invariant.0, fits, ap length (tail_is l.out l.p), length-drop l.p l.out),
    )

pub loop-field-preserved : goal.loop-field-preserved
loop-field-preserved c =
    let s = c.args in
    let l = c.loop-field in
    let at = c.loop-field-test.true in (
      omega (arith, more_long rows s.source.now s.fields.now l.field-index at, l.invariant.0, c.write_field-p.ensures.is),
      zone_over rows s.source.now s.fields.now l.field-index at s.out.now l.out _ l.p l.invariant.0 l.invariant.1 c.write_field-p.ensures.written,
    )
