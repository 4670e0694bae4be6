-- The number of codewords left falls at each call. What reading on gives from where the loop stands is what reading gives from where it began.
use Rattle.std.proofs.Common.{◌≡◌, ◌≤◌, ◌-◌, length, drop}
use Rattle.codeword.specs.Reading.{in_ascii, in_c40, read}
use Rattle.codeword.specs.declared.Set.TheVariants.{Basic}
use Rattle.symbol_reader.specs.Steps.{reads}
use Rattle.symbol_reader.proofs.+read_ascii_read_c40.Given as goal

abbrev pub decreases-read_ascii : goal.decreases-read_ascii
decreases-read_ascii l = length l.codewords.now - l.start

abbrev pub decreases-read_c40 : goal.decreases-read_c40
decreases-read_c40 l = length l.codewords.now - l.start

abbrev pub invariant-read_ascii-loop-at : goal.invariant-read_ascii-loop-at
invariant-read_ascii-loop-at l =
    reads l.text.items l.at (read (drop l.at l.codewords) in_ascii) ≡ reads l.fn.text.items l.fn.start (read (drop l.fn.start l.fn.codewords) in_ascii)

abbrev pub invariant-read_c40-loop-at : goal.invariant-read_c40-loop-at
invariant-read_c40-loop-at l = record {
  says : reads l.text.items l.at (read (drop l.at l.codewords) (in_c40 l.set)) ≡ reads l.fn.text.items l.fn.start (read (drop l.fn.start l.fn.codewords) (in_c40 Basic));
  from : l.fn.start ≤ l.at;
  fits : l.at ≤ length l.codewords;
}

abbrev pub decreases-read_c40-loop-at : goal.decreases-read_c40-loop-at
decreases-read_c40-loop-at l = length l.codewords - l.at
