-- What a lent slice holds after a list was written to its front.
use Rattle.std.specs.Prelude.{List, ◌++◌, length, drop}

-- the list, and behind it what was there
abbrev pub over : {A : Type 0} → List A → List A → List A
over l old = l ++ drop (length l) old
