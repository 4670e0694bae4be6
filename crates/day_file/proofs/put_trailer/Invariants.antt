-- With each turn one more start stands behind the records.
use mathlib.Core.Path.{◌≡◌}
use Rattle.day_file.proofs.Trailing.{starts_put, size_put}
use Rattle.day_file.proofs.put_trailer.Given as goal

abbrev pub invariant-loop-i : goal.invariant-loop-i
invariant-loop-i l = (l.at ≡ size_put l.initial.file l.count l.t l.i) × (l.file ≡ starts_put l.initial.file l.count l.t l.i)
