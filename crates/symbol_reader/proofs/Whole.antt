-- What `read_symbol` promises leaves one answer: what a result says tells it.
-- Assumes nothing.
use Rattle.std.proofs.Common.{ℕ, ◌≡◌, List, Result, sym, ◌∙◌}
use Rattle.refusal.specs.Said.{says}
use Rattle.refusal.specs.declared.Refusal.{Refusal}
use Rattle.refusal.proofs.Said.{says_one}
use Rattle.codeword.specs.Reading.{Reading}
use Rattle.symbol_reader.specs.declared.SymbolRead.{SymbolRead}
use Rattle.symbol_reader.specs.Answers.{answered, lent_after}

-- WHAT `read_symbol` PROMISES, and that there is only one possible answer
abbrev pub Promised : Reading → (old : List ℕ) → Result SymbolRead Refusal → (new : List ℕ) → Type 0
Promised o old r new = (says r ≡ answered o) × (new ≡ lent_after o old)

pub only_one : (o : Reading) (old : List ℕ) (r r' : Result SymbolRead Refusal) (new new' : List ℕ) → Promised o old r new → Promised o old r' new'
    → (r ≡ r') × (new ≡ new')
only_one o old r r' new new' p q = (says_one r r' (p.0 ∙ sym q.0), p.1 ∙ sym q.1)
