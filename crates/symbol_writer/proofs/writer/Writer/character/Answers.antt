-- Two digits are one codeword where the look into the rows, the definition's question, says so.
use mathlib.Core.Bool.{false, ◌&&◌}
use mathlib.Core.Path.{◌≡◌, sym, ◌∙◌}
use Prim.Native.Nat.{◌+◌, ◌<◌}
use native.Mathlib.Omega.{arith}
use lib.ListN.{length, drop, get_or}
use Rattle.std.proofs.Common.{rules}
use Rattle.optimum.specs.Cost.{asc, digit}
use Rattle.optimum.specs.Write.{fits}
use Rattle.symbol_writer.proofs.Greedy.{digit_told, first_fails, second_fails, third_fails, character_two, character_one}
use Rattle.symbol_writer.proofs.writer.Writer.character.Goals as goal
use Rattle.symbol_writer.proofs.writer.Writer.character.Goals.{else-is_ascii_digit-via-then-is_ascii_digit+then-is_ascii_digit-2+else-fits, else-is_ascii_digit-via-then-is_ascii_digit+else-is_ascii_digit-2, else-is_ascii_digit-via-else-is_ascii_digit}

pub returns-then-fits-clause-is : goal.returns-then-fits-clause-is
returns-then-fits-clause-is c =
    let t = c.args.self.now.text.now in
    let p : c.in_ok-c.field-0.now ≡ get_or t c.args.i 0 = search rules in
    let q : c.in-Some.field-0.now ≡ get_or t (c.args.i + 1) 0 = search rules in
    let more : c.args.i + 1 < length t = search rules in
    rw c.one.ensures
    (character_two c.args.self.now.padded t c.args.i c.args.n (omega (arith, more))
    (digit_told c.is_ascii_digit.ensures.value p c.if-is_ascii_digit.true)
    (digit_told c.is_ascii_digit-then-is_ascii_digit.ensures.value q c.if-is_ascii_digit-2.true)
    (sym c.fits.ensures ∙ c.if-fits.true) _ (omega (arith, p, q)))

pub returns-clause-is : goal.returns-clause-is
returns-clause-is c =
    let t = c.args.self.now.text.now in
    let p : c.in_ok-c.field-0.now ≡ get_or t c.args.i 0 = search rules in
    let q : c.in-Some.field-0.now ≡ get_or t (c.args.i + 1) 0 = search rules in
    let more : c.args.i + 1 < length t = search rules in
    let not : (digit (get_or t c.args.i 0) && digit (get_or t (c.args.i + 1) 0) && fits c.args.self.now.padded (drop (c.args.i + 2) t) asc c.args.n) ≡ false =
    elim c.else-is_ascii_digit.branch [
      | else-is_ascii_digit-via-then-is_ascii_digit+then-is_ascii_digit-2+else-fits w ↦
          third_fails _ _ _ (digit_told c.is_ascii_digit.ensures.value p w.if-is_ascii_digit.true) (digit_told w.is_ascii_digit-then-is_ascii_digit.ensures.value q w.if-is_ascii_digit-2.true) (sym w.fits.ensures ∙ w.if-fits.false)
      | else-is_ascii_digit-via-then-is_ascii_digit+else-is_ascii_digit-2 w ↦
          second_fails _ _ _ (digit_told c.is_ascii_digit.ensures.value p w.if-is_ascii_digit.true) (digit_told w.is_ascii_digit-then-is_ascii_digit.ensures.value q w.if-is_ascii_digit-2.false)
      | else-is_ascii_digit-via-else-is_ascii_digit w ↦ first_fails _ _ _ (digit_told c.is_ascii_digit.ensures.value p w.if-is_ascii_digit.false)
    ] in
    rw (c.one-alone.ensures, p) (character_one c.args.self.now.padded t c.args.i c.args.n (omega (arith, more)) not)
