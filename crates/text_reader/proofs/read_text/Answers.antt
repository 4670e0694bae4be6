use Rattle.std.proofs.Common.{◌≡◌, Some, arith}
use Rattle.text_reader.proofs.Whole.{header_fits, mark_fits}
use Rattle.text_reader.proofs.read_text.Goals as goal

pub find_mark-requires : goal.find_mark-requires
find_mark-requires c = let fits = header_fits c.args.text.now c.in_ok-head.head c.in_ok-head.ensures in omega (arith, fits, c.size.ensures)

pub read_behind-requires : goal.read_behind-requires
read_behind-requires c =
    let t = c.args.text.now in
    let fits = header_fits t c.in_ok-head.head c.in_ok-head.ensures in
    let found : c.find_mark.result ≡ Some c.in_ok-mark.mark = grind arith in
    let within = mark_fits c.size.result c.in_ok-mark.mark t c.find_mark.result (omega (arith, fits, c.size.ensures)) c.find_mark.ensures found in
    omega (arith, within, c.size.ensures)
