use Rattle.std.proofs.Common.{arith, Some, ◌≡◌}
use Rattle.text_reader.proofs.Turns.{on_row}
use Rattle.text_reader.proofs.read_field.Goals as goal

pub prove-unreachable-requires : goal.prove-unreachable-requires
prove-unreachable-requires c =
    let found : c.find_row-found.result ≡ Some (c.in_ok-number.number, c.in_ok-number.row) = grind arith in
    omega (arith, on_row _ _ _ _ _ c.find_row-found.ensures found)
