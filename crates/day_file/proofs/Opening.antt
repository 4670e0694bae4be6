-- A file that passes every test of opening: its two last numbers are the count and the size of the records that stand there.
-- Assumes nothing.
use Prim.Native.Nat.{ℕ, ◌+◌, ◌*◌, ◌≤◌}
use mathlib.Core.Bool.{true}
use mathlib.Core.List.{List}
use mathlib.Core.Path.{◌≡◌, sym, ap, ◌∙◌}
use lib.ListN.{length, take, drop}
use borrow.Author.Tests.{le-leb, eq-eqb}
use Rattle.refusal.specs.Answers.{good}
use Rattle.refusal.specs.Said.{turned}
use Rattle.day_file.specs.File.{most_bytes}
use Rattle.day_file.specs.Opening.{count_in, trailer_in, scans, standing, records}
use Rattle.day_file.specs.Answers.{opened_answer}
use Rattle.day_file.proofs.Bytes.{Bytes}
use Rattle.day_file.proofs.Good.{accepted}

module _ (f : List ℕ) (y : Bytes f) (h1 : length f ≤ most_bytes) (h2 : 8 ≤ length f) (h3 : trailer_in f + 4 * count_in f + 8 ≡ length f)
    (h : standing (count_in f) 0 (take (trailer_in f) f) (drop (trailer_in f) f) ≡ true) where
  good_walk : records f ≡ good (scans (count_in f) (take (trailer_in f) f))
  unfolding records
  good_walk = rw (le-leb (length f) most_bytes h1, le-leb 8 (length f) h2, eq-eqb (trailer_in f + 4 * count_in f + 8) (length f) h3, h)

  pub good_file : good (record { count = count_in f; trailer = trailer_in f }) ≡ turned opened_answer (records f)
  good_file =
      let a = accepted f y (scans (count_in f) (take (trailer_in f) f)) good_walk in
      ap (λ n. good (record { count = n; trailer = trailer_in f })) (sym a.count)
      ∙ ap (λ n. good (record { count = length (scans (count_in f) (take (trailer_in f) f)); trailer = n })) (sym a.trails)
      ∙ sym (ap (turned opened_answer) good_walk)
