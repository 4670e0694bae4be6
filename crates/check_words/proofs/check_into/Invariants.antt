-- `check_into` meets its contract: with the words that are left, the register becomes the check words.
use lib.ListN.{drop, length}
use mathlib.Core.Path.{◌≡◌}
use Rattle.check_words.specs.Generator.{coeffs}
use Rattle.check_words.specs.Register.{check_words, feeds}
use Rattle.check_words.proofs.check_into.Given as goal

abbrev pub invariant-loop-d : goal.invariant-loop-d
invariant-loop-d l = (l.g ≡ coeffs (length l.initial.r)) × (feeds l.g l.r (drop l.d-index l.words) ≡ check_words (length l.initial.r) l.words)
