-- `read_zone` meets its contract: the marks are the rows of the fields so far, and reading on behind these answers what reading the zone does.
use Rattle.std.proofs.Common.{[], ◌≡◌, ◌-◌, ◌≤◌, length, drop}
use Rattle.refusal.specs.Limits.{most_fields}
use Rattle.dictionary.specs.Rows.{rows, row_count}
use Rattle.text.specs.Zone.{zone}
use Rattle.text_reader.specs.inner.Code.{Marks}
use Rattle.text_reader.proofs.read_zone.Given as goal

abbrev pub invariant-loop-p : goal.invariant-loop-p
invariant-loop-p l =
    (l.p ≤ length l.text) × (length l.fields.items ≤ most_fields) × (length l.used ≡ row_count) × Marks l.used l.fields.items
    × (zone rows (most_fields - length l.fields.items) l.fields.items l.p (drop l.p l.text) ≡ zone rows most_fields [] l.start (drop l.start l.text))

abbrev pub decreases-loop-p : goal.decreases-loop-p
decreases-loop-p l = length l.text - l.p
