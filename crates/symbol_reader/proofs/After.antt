-- The text so far and the place in front of what the rest gives: at the end of the text, and one codeword further on.
-- Assumes nothing.
use Rattle.std.proofs.Common.{ℕ, ◌≡◌, ◌+◌, List, [], Bool, suc, ◌++◌, ap, append-nil, arith}
use Rattle.refusal.specs.Answers as answer
use Rattle.codeword.specs.Reading.{Reading, good, refused, tick}
use Rattle.symbol_reader.specs.Steps.{after}

pub after_end : (t : List ℕ) (p n : ℕ) (b : Bool) → after t p (good [] n b) ≡ answer.good (t, p + n)
after_end t p n b = ap (λ (l : List ℕ). answer.good (l, p + n)) (append-nil t)

pub after_tick : (t : List ℕ) (p : ℕ) (o : Reading) → after t p (tick o) ≡ after t (p + 1) o
after_tick t p (good u n b) = let e : p + suc n ≡ p + 1 + n = omega arith in ap (λ (m : ℕ). answer.good (t ++ u, m)) e
after_tick t p (refused k q) = let e : p + suc q ≡ p + 1 + q = omega arith in ap (λ (m : ℕ). answer.refused k m) e
