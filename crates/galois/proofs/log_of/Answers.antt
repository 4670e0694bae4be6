-- `log_of` meets its contract: the table's entry at the place a.
use Prim.Native.Nat.{ℕ}
use lib.ListN.{get_or}
use mathlib.Core.Path.{◌≡◌, ap, ◌∙◌}
use native.Mathlib.Omega.{arith}
use Rattle.galois.specs.Tables.{logs}
use Rattle.galois.proofs.Powers.{log_is, element_log}
use Rattle.galois.proofs.log_of.Goals as goal

pub returns : goal.returns
unfolding logs
returns c =
    let a = c.args.a in
    let e : c.from-2.result ≡ get_or logs a 0 = c.from-2.ensures ∙ ap (λ (i : ℕ). get_or logs i 0) c.from.ensures in
    (e, rw e (log_is a (omega arith)), rw e (element_log a (omega arith)))
