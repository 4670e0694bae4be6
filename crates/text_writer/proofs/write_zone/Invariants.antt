-- `write_zone` meets its contract. The invariant: the records passed are at the front of the output, and the rest of it is as it was.
use Rattle.std.proofs.Common.{◌≡◌, length, take}
use Rattle.refusal.specs.Over.{over}
use Rattle.dictionary.specs.Rows.{rows}
use Rattle.text_writer.specs.inner.Room.{zone_chars}
use Rattle.text_writer.proofs.write_zone.Given as goal

abbrev pub invariant-loop-field : goal.invariant-loop-field
invariant-loop-field l = (l.p ≡ length (zone_chars rows l.source (take l.field-index l.fields))) × (l.out ≡ over (zone_chars rows l.source (take l.field-index l.fields)) l.initial.out)
