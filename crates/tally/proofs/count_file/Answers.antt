-- The trailer has an entry for the record of a turn.
use Rattle.std.proofs.Common.{rules}
use Rattle.day_file.proofs.Numbered.{known_whole, entry_fits}
use Rattle.tally.proofs.count_file.Goals as goal

pub start-at-requires : goal.start-at-requires
start-at-requires c = (entry_fits _ _ _ _ (known_whole _ _ (search rules) c.in_ok-day.ensures) _ c.loop-i-test.true).0
