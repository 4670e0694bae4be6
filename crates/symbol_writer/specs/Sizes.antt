-- The choice of the size in the code's terms.
use Rattle.std.specs.Prelude.{Option, Some, None}
use Rattle.optimum.specs.Write.{Choice, at, nothing}
use Rattle.symbol_writer.specs.declared.sizes.Size.{Size}

abbrev pub choice_of : Option Size → Choice
choice_of (Some s) = at s.capacity s.used s.padded
choice_of None = nothing
