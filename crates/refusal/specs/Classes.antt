-- Classes of characters.
use Rattle.std.specs.Prelude.{ℕ, Bool, ◌&&◌, leb}

abbrev pub between : ℕ → ℕ → ℕ → Bool
between a b c = leb a c && leb c b

abbrev pub digit : ℕ → Bool
digit c = between 48 57 c

abbrev pub upper : ℕ → Bool
upper c = between 65 90 c
