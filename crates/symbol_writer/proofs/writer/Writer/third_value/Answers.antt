-- In the basic set the look into the rows is the question of the definition; behind a shift the third value is the next one.
use mathlib.Core.Bool.{true, false}
use mathlib.Core.Path.{◌≡◌, sym, ◌∙◌}
use native.Mathlib.Omega.{arith}
use Rattle.codeword.specs.declared.Set.TheVariants.{Basic}
use Rattle.symbol_writer.proofs.Greedy.{value_before, third_next, third_at_end, third_is}
use Rattle.symbol_writer.proofs.writer.Writer.third_value.Goals as goal
use Rattle.symbol_writer.proofs.writer.Writer.third_value.Goals.{in-Basic, in_default, in_default-next-via-in-Some+else-fits, in_default-next-via-in_default-next}

pub returns-then-not-matches-clause-is : goal.returns-then-not-matches-clause-is
returns-then-not-matches-clause-is c =
    c.next_value-next.ensures.is
    ∙ third_next _ _ _ _ (elim c.match-matches.branch [ in-Basic w ↦ (let z : true ≡ false = sym w.matches-is ∙ c.if-not-matches.true in λ e. absurd (cc)) | in_default w ↦ w.in_default.not-Basic ])

pub fits-requires : goal.fits-requires
fits-requires c = let h = value_before c.args.self.now.text.now c.args.i c.args.set c.requires c.in-Some.ensures.is in omega (arith, h)

pub returns-in-Some-clause-is : goal.returns-in-Some-clause-is
returns-in-Some-clause-is c =
    let e : c.args.set ≡ Basic = elim c.match-matches.branch [ in-Basic w ↦ w.in-Basic.is | in_default w ↦ (let z : true ≡ false = sym c.if-not-matches.false ∙ w.matches-is in absurd (cc)) ] in
    let h = value_before c.args.self.now.text.now c.args.i c.args.set c.requires c.in-Some.ensures.is in
    let taken = third_is c.args.self.now.padded c.args.n _ _ _ _ c.args.self.now.text.now c.args.i h (rw e at c.in-Some.ensures.is) (rw c.behind.ensures at c.fits.ensures) in
    rw (c.if-fits.true, ← e) at taken

pub returns-in_default-next-clause-is : goal.returns-in_default-next-clause-is
returns-in_default-next-clause-is c =
    let e : c.args.set ≡ Basic = elim c.match-matches.branch [ in-Basic w ↦ w.in-Basic.is | in_default w ↦ (let z : true ≡ false = sym c.if-not-matches.false ∙ w.matches-is in absurd (cc)) ] in
    elim c.in_default-next.branch [
      | in_default-next-via-in-Some+else-fits w ↦
          (let h = value_before c.args.self.now.text.now c.args.i c.args.set c.requires w.in-Some.ensures.is in
          let taken = third_is c.args.self.now.padded c.args.n _ _ _ _ c.args.self.now.text.now c.args.i h (rw e at w.in-Some.ensures.is) (rw w.behind.ensures at w.fits.ensures) in
          rw (w.if-fits.false, ← e) at taken)
      | in_default-next-via-in_default-next w ↦ rw e (third_at_end _ _ _ (rw e at w.in_default-next.ensures.is))
    ]
