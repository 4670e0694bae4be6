-- `read_data` meets its contract: reading on from the place p, behind the characters so far, answers what reading from the start does.
use Rattle.std.proofs.Common.{[], ◌≡◌, ◌-◌, drop}
use Rattle.dictionary.specs.inner.Lookup.{so_far}
use Rattle.text.specs.Zone.{read_data}
use Rattle.text_reader.proofs.read_data.Given as goal

abbrev pub invariant-loop-p : goal.invariant-loop-p
invariant-loop-p l = read_data l.row l.id (so_far l.text l.start (l.p - l.start)) l.p (drop l.p l.text) ≡ read_data l.row l.id [] l.start (drop l.start l.text)
