-- The fields so far are the first of the list.
use Rattle.std.proofs.Common.{◌≡◌, take}
use Rattle.records.proofs.take_fields.Given as goal

abbrev pub invariant-loop-field : goal.invariant-loop-field
invariant-loop-field l = l.fields.items ≡ take l.field-index l.list
