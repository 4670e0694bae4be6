-- `room_of_zone` meets its contract. The invariant: the room so far, and what writing the other records answers, make up the whole.
use Rattle.std.proofs.Common.{[], ◌≡◌, ◌+◌, ◌*◌, ◌≤◌, length}
use Rattle.refusal.specs.Said.{turned}
use Rattle.dictionary.specs.Rows.{rows}
use Rattle.text.specs.Text.{write_zone}
use Rattle.text_writer.proofs.Zones.{behind}
use Rattle.text_writer.specs.inner.Room.{widest}
use Rattle.text_writer.proofs.room_of_zone.Given as goal

abbrev pub invariant-loop-i : goal.invariant-loop-i
invariant-loop-i l = (l.room ≤ (widest + 2) * l.i) × (behind l.source l.fields l.room l.i ≡ turned length (write_zone rows l.source [] 0 l.fields))
