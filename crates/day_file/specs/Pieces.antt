-- A piece put into a list. Only contracts of inner functions cite it.
use Rattle.std.specs.Prelude.{ℕ, ◌+◌, List, ◌++◌, length, take, drop}

-- vs from the place p on, and what was there before and behind
abbrev pub put_at : List ℕ → ℕ → List ℕ → List ℕ
put_at l p vs = take p l ++ vs ++ drop (p + length vs) l
