-- What `read_symbol` answers and what it leaves in the lent text, by the one definition of reading.
use Rattle.std.specs.Prelude.{ℕ, List, ◌++◌, length, drop}
use Rattle.refusal.specs.Answers as answer
use Rattle.refusal.specs.Answers.{Answer}
use Rattle.codeword.specs.Reading.{Reading, good, refused}
use Rattle.symbol_reader.specs.declared.SymbolRead.{SymbolRead}

-- the length of the text and the codewords before the first pad; or the refusal
abbrev pub answered : Reading → Answer SymbolRead
answered (good t n b) = answer.good (record { length = length t; used = n })
answered (refused k p) = answer.refused k p

-- Behind the last character nothing is changed, and a refusal changes nothing.
abbrev pub lent_after : Reading → List ℕ → List ℕ
lent_after (good t n b) old = t ++ drop (length t) old
lent_after (refused k p) old = old
