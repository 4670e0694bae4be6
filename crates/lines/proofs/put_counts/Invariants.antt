-- With each turn one line more stands at the front.
use mathlib.Core.Path.{◌≡◌}
use lib.ListN.{length, take}
use Rattle.day_file.specs.Pieces.{put_at}
use Rattle.lines.specs.Lines.{lines_of}
use Rattle.lines.proofs.put_counts.Given as goal

abbrev pub invariant-loop-slot : goal.invariant-loop-slot
invariant-loop-slot l = (l.at ≡ length (lines_of 0 (take l.slot l.counts))) × (l.out ≡ put_at l.initial.out 0 (lines_of 0 (take l.slot l.counts))) × (length l.out ≡ length l.initial.out)
