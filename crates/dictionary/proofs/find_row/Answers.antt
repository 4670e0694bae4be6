-- `find_row` meets its contract: every row stands at the place of its identifier, so one look there decides.
use mathlib.Core.Path.{◌≡◌, sym, ◌∙◌}
use Rattle.std.proofs.Common.{Some, None}
use mathlib.Core.Bool.{◌&&◌}
use native.Mathlib.Omega.{arith}
use lib.Dec.{eqb}
use borrow.Author.Tests.{eq-eqb, ne_eqb}
use Rattle.dictionary.specs.inner.Lookup.{place_of}
use Rattle.dictionary.specs.Rows.{rows}
use Rattle.dictionary.proofs.Rows.{rows_numbered, no_place, look}
use Rattle.dictionary.proofs.find_row.Goals.{then-a-row, else-a-row}
use Rattle.dictionary.proofs.find_row.Goals as goal

pub returns-in_err-n : goal.returns-in_err-n
returns-in_err-n c = λ p. rw c.from_residual.ensures (no_place place_of c.args.a c.args.b p rows rows_numbered (sym c.place_of.ensures ∙ c.in_err-n.was))

pub returns-in_err-row : goal.returns-in_err-row
returns-in_err-row c =
    λ p. rw c.from_residual-in_err-row.ensures
    (look place_of c.args.a c.args.b p rows 0 c.in_ok-n.n c.in_ok-n.n rows_numbered (sym c.place_of.ensures ∙ c.in_ok-n.was) (omega arith) None (c.in_err-row.ensures p))

pub returns : goal.returns
returns c =
    let tested : c.if-a-row.then_some ≡ (eqb c.args.a c.in_ok-row.row.first && eqb c.args.b c.in_ok-row.row.second) =
    elim c.if-a-row.branch [
      | then-a-row w ↦ rw (eq-eqb c.args.a c.in_ok-row.row.first w.if-a-row.true) w.then_some-is
      | else-a-row w ↦ rw (ne_eqb c.args.a c.in_ok-row.row.first w.if-a-row.false) (w.then_some-is ∙ ne_eqb c.args.a c.in_ok-row.row.first w.if-a-row.false)
    ] in
    λ p. rw (c.then_some.ensures, tested)
    (look place_of c.args.a c.args.b p rows 0 c.in_ok-n.n c.in_ok-n.n rows_numbered (sym c.place_of.ensures ∙ c.in_ok-n.was) (omega arith) (Some c.in_ok-row.row) (c.in_ok-row.ensures p))
