-- A row that a field so far names is there, so with the rows of the fields behind them it is among all.
use Rattle.std.proofs.Common.{◌≡◌, length}
use Rattle.conformity.proofs.There.{Split}
use Rattle.conformity.proofs.rows_of.Given as goal

abbrev pub invariant-loop-field : goal.invariant-loop-field
invariant-loop-field l = (length l.there ≡ 110) × Split l.there l.fields l.field-index
