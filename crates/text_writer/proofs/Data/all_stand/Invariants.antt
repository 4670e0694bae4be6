-- `all_stand` meets its contract. The invariant: the rest stands behind what was passed if all stand.
use Rattle.std.proofs.Common.{[], ◌≡◌, take, drop}
use Rattle.text.specs.Text.{in_turn}
use Rattle.text_writer.proofs.Data.all_stand.Given as goal

abbrev pub invariant-loop-n : goal.invariant-loop-n
invariant-loop-n l = in_turn l.self.row (take l.n l.self.chars.now) (drop l.n l.self.chars.now) ≡ in_turn l.self.row [] l.self.chars.now
