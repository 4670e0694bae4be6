-- Each goal but two is found from the laws that `Clauses` states. Behind the branches that put one character or two, and behind a lone last
-- character, what was put is told what follows it.
use Rattle.std.proofs.Common.{arith, ◌+◌, drop, false, append-nil}
use Rattle.codeword.specs.Reading.{behind, end, in_ascii, read}
use Rattle.symbol_reader.proofs.After.{after_tick}
use Rattle.symbol_reader.proofs.Clauses.{ascii_one, ascii_two, c40_last}
use Rattle.symbol_reader.proofs.+read_ascii_read_c40.Goals as goal
use Rattle.symbol_reader.proofs.+read_ascii_read_c40.Goals.{read_ascii-in-One+in_ok-put_char-in-One, read_ascii-in-Two+in_ok-put_char-in-Two+in_ok-put_char-in-Two-2}

pub read_ascii-loop-at-preserved : goal.read_ascii-loop-at-preserved
read_ascii-loop-at-preserved t c =
    let rest = behind (read (drop (c.loop-at.at + 1) c.args.codewords.now) in_ascii) in
    elim c.match-ascii_of.branch [
      | read_ascii-in-One+in_ok-put_char-in-One w ↦ let h = w.put_char.ensures rest in grind (arith, after_tick, ascii_one)
      | read_ascii-in-Two+in_ok-put_char-in-Two+in_ok-put_char-in-Two-2 w ↦ let h = w.put_char-in-Two-2.ensures rest in grind (arith, after_tick, ascii_two)
    ]

pub read_c40-returns-in_ok-put_char-in-Last : goal.read_c40-returns-in_ok-put_char-in-Last
read_c40-returns-in_ok-put_char-in-Last t c = let put = c.put_char.ensures (end 1 false) in grind (arith, append-nil, c40_last)
