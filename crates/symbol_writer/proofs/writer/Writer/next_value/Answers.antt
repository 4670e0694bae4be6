-- At the end there is none; in the basic set it is the character's number or shift, behind a shift its number.
use mathlib.Core.Path.{◌≡◌, refl, sym, ◌∙◌}
use Prim.Native.Nat.{◌≤◌, ◌<◌}
use native.Mathlib.Omega.{arith}
use lib.ListN.{length, get_or}
use Rattle.std.proofs.Common.{rules}
use Rattle.codeword.specs.declared.Set.TheVariants.{Set1, Set2, Set3}
use Rattle.codeword.proofs.Characters.{number_low}
use Rattle.symbol_writer.proofs.Greedy.{at_end, next_at_end, next_shift, next_number}
use Rattle.symbol_writer.proofs.writer.Writer.next_value.Goals as goal
use Rattle.symbol_writer.proofs.writer.Writer.next_value.Goals.{in-Basic-Set1, in-Basic-Set2, in-Basic-Set3, in_default, in_default-via-in-Basic+in_default, in_default-via-in_default}

pub returns-in_err-get-clause-is : goal.returns-in_err-get-clause-is
returns-in_err-get-clause-is c =
    let end : length c.args.self.now.text.now ≤ c.args.i = search rules in
    rw c.from_residual.ensures (next_at_end _ c.args.set (at_end c.args.self.now.text.now c.args.i c.requires end))

pub invariant_of-result : goal.invariant_of-result
invariant_of-result c =
    let e : c.in_ok-get.field-0.now ≡ get_or c.args.self.now.text.now c.args.i 0 = search rules in
    let low = number_low c.in_ok-get.field-0.now (rw e (c.args.self.now.chars c.args.i)) in
    record { low = elim c.match-set.branch [ in-Basic-Set1 w ↦ rw w.value-is (omega arith) | in-Basic-Set2 w ↦ rw w.value-is (omega arith) | in-Basic-Set3 w ↦ rw w.value-is (omega arith) | in_default w ↦ rw (w.value-is, c.place_of-place.ensures.1) (omega arith) ] }

pub returns-clause-is : goal.returns-clause-is
returns-clause-is c =
    let h : c.args.i < length c.args.self.now.text.now = search rules in
    let e : c.in_ok-get.field-0.now ≡ get_or c.args.self.now.text.now c.args.i 0 = search rules in
    let set = rw e at c.place_of-place.ensures.0 in
    let number = rw e at c.place_of-place.ensures.1 in
    elim c.match-set.branch [
      | in-Basic-Set1 w ↦ rw w.value-is (next_shift _ _ h c.args.set Set1 w.in-Basic-Set1.is-0 (sym w.in-Basic-Set1.is-1 ∙ set) refl)
      | in-Basic-Set2 w ↦ rw w.value-is (next_shift _ _ h c.args.set Set2 w.in-Basic-Set2.is-0 (sym w.in-Basic-Set2.is-1 ∙ set) refl)
      | in-Basic-Set3 w ↦ rw w.value-is (next_shift _ _ h c.args.set Set3 w.in-Basic-Set3.is-0 (sym w.in-Basic-Set3.is-1 ∙ set) refl)
      | in_default w ↦ elim w.in_default.branch [
        | in_default-via-in-Basic+in_default v ↦ rw w.value-is (next_number _ _ h c.args.set _ (λ f. sym v.in_default.is-1 ∙ set) number)
        | in_default-via-in_default v ↦ rw w.value-is (next_number _ _ h c.args.set _ (λ f. absurd (v.in_default.not-Basic-0 f)) number)
      ]
    ]
