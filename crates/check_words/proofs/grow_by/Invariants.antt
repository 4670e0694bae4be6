-- `grow_by` meets its contract: the words already changed, and behind them what the others will be, are the generator with one root more.
use mathlib.Core.List.{◌++◌}
use mathlib.Core.Path.{◌≡◌}
use lib.ListN.{drop, take}
use Rattle.galois.specs.Tables.{element_of}
use Rattle.check_words.specs.Generator.{grow}
use Rattle.check_words.proofs.grow_by.Given as goal

abbrev pub invariant-loop-w : goal.invariant-loop-w
invariant-loop-w l = take l.w-index l.g ++ grow (element_of l.m) l.before (drop l.w-index l.g) ≡ grow (element_of l.m) 1 l.initial.g
