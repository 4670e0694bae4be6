-- The writer's moves in the code's terms: a place of the text stands for what is left of it.
use Rattle.std.specs.Prelude.{ℕ, ◌≤◌, ◌<◌, List, [], ◌∷◌, Option, Some, None, length, drop, get_or}
use Rattle.refusal.specs.Limits.{limit}
use Rattle.codeword.specs.Reading as reading
use Rattle.codeword.specs.Reading.{in_ascii, in_c40}
use Rattle.optimum.specs.Write as writing
use Rattle.optimum.specs.Write.{Step, val, stuck, one, two, none}
use Rattle.symbol_writer.specs.declared.moves.Mode.{Mode}
use Rattle.symbol_writer.specs.declared.moves.Mode.TheVariants.{Ascii, C40}
use Rattle.symbol_writer.specs.declared.moves.NextValue.{NextValue}
use Rattle.symbol_writer.specs.declared.moves.Codewords.{Codewords}
use Rattle.symbol_writer.specs.declared.moves.Codewords.TheVariants.{One, Two}
use Rattle.symbol_writer.specs.declared.moves.Move.{Move}
use Rattle.symbol_writer.specs.Rows.{work_room}

abbrev pub mode_of : Mode → reading.Mode
mode_of Ascii = in_ascii
mode_of (C40 s) = in_c40 s

abbrev pub step_of : Option NextValue → List ℕ → Step
step_of (Some v) t = val v.value v.set (drop v.place t)
step_of None t = stuck

abbrev pub moved : Codewords → reading.Mode → List ℕ → writing.Move
moved (One w) m t = one w m t
moved (Two v w) m t = two v w m t

abbrev pub move_of : Option Move → List ℕ → writing.Move
move_of (Some m) t = moved m.codewords (mode_of m.mode) (drop m.place t)
move_of None t = none

-- the text is of characters 0 to 127
abbrev pub Chars : List ℕ → Type 0
Chars t = (k : ℕ) → get_or t k 0 < 128

-- what is lent to the writing
pub record Lent (t w : List ℕ) : Type 0 where
  pub short : length t ≤ limit
  pub room : work_room ≤ length w
  pub chars : Chars t

abbrev pub words : Codewords → List ℕ
words (One w) = w ∷ []
words (Two v w) = v ∷ w ∷ []

-- the value leads to a place of the text
abbrev pub ValueWithin : Option NextValue → (length : ℕ) → Type 0
ValueWithin (Some v) l = v.place ≤ l
ValueWithin None l = Unit {0}

-- the move leads to a place of the text, and is of codewords that are left
abbrev pub MoveWithin : Option Move → (length left : ℕ) → Type 0
MoveWithin (Some m) l n = (m.place ≤ l) × (length (words m.codewords) ≤ n)
MoveWithin None l n = Unit {0}
