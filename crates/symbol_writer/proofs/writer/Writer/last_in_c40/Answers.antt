-- Each way out is a case of the definition's last move in C40 mode.
use mathlib.Core.Path.{◌≡◌}
use Prim.Native.Nat.{◌≤◌, ◌<◌}
use lib.ListN.{length, get_or}
use Rattle.std.proofs.Common.{rules}
use Rattle.symbol_writer.proofs.Greedy.{at_end, last_padded, last_at_end, last_character}
use Rattle.symbol_writer.proofs.writer.Writer.last_in_c40.Goals as goal
use Rattle.symbol_writer.proofs.writer.Writer.last_in_c40.Goals.{in_default-via-in-Some+else-not-self, in_default-via-in_default}

pub returns-in-Some-clause-is : goal.returns-in-Some-clause-is
returns-in-Some-clause-is c =
    let t = c.args.self.now.text.now in
    let h : c.args.i < length t = search rules in
    let e : c.in-Some.field-0.now ≡ get_or t c.args.i 0 = search rules in
    rw (c.one.ensures, e) (last_character c.args.self.now.padded c.args.set t c.if-not-self.true c.args.i h)

pub returns-in_default-clause-is : goal.returns-in_default-clause-is
returns-in_default-clause-is c =
    let t = c.args.self.now.text.now in
    rw c.one-in_default.ensures
    (elim c.in_default.branch [
      | in_default-via-in-Some+else-not-self w ↦ last_padded c.args.self.now.padded c.args.set _ w.if-not-self.false
      | in_default-via-in_default w ↦
          (let h : length t ≤ c.args.i = search rules in
          last_at_end c.args.self.now.padded c.args.set _ (at_end t c.args.i c.requires h))
    ])
