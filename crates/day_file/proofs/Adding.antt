-- Adding a scan: the record where the trailer stood, the new trailer behind it; and what is answered, test by test.
-- Assumes nothing.
use Prim.Native.Nat.{ℕ, ◌+◌, ◌-◌, ◌*◌, ◌≤◌, ◌<◌}
use mathlib.Core.List.{List, [], ◌∷◌, ◌++◌, append-nil}
use mathlib.Core.Path.{◌≡◌, refl, sym, ap, ◌∙◌}
use native.Mathlib.Omega.{arith}
use lib.ListN.{length, take, drop, length-append}
use lib.Seq.{take_at, take-take}
use borrow.Author.Tests.{le-leb, lt-leb}
use Rattle.refusal.specs.Answers.{good, refused}
use Rattle.refusal.specs.Numbers.{file_full}
use Rattle.refusal.specs.Limits.{limit}
use Rattle.refusal.specs.Over.{over}
use Rattle.refusal.specs.Said.{turned}
use Rattle.day_file.specs.File.{Scan, most_bytes, record_of, body, trailer, bytes_of}
use Rattle.day_file.specs.Opening.{scans, opened}
use Rattle.day_file.specs.Plain.{live, size}
use Rattle.day_file.specs.Promise.{adding, slice_after}
use Rattle.day_file.specs.Answers.{added_answer}
use Rattle.day_file.specs.Opens.{list_of, Opens}
use Rattle.day_file.specs.Pieces.{put_at}
use Rattle.day_file.specs.declared.Opened.{Opened}
use Rattle.day_file.proofs.Standing.{scans_of}
use Rattle.day_file.proofs.Good.{size_plain}
use Rattle.day_file.proofs.Bytes.{Bytes}
use Rattle.day_file.proofs.Holding.{Holds, holds}
use Rattle.day_file.proofs.Numbered.{opened_is, told}
use Rattle.day_file.proofs.Places.{body_append}
use Rattle.day_file.proofs.Putting.{head_put, drop_put, length_put}
use Rattle.day_file.proofs.Runs.{size_add}

one : (r : Scan) → body (r ∷ []) ≡ record_of r
unfolding body
one r = append-nil (record_of r)

front_is : (rs : List Scan) (s : List ℕ) (len : ℕ) → Holds s len rs → take (length (body rs)) s ≡ body rs
unfolding bytes_of
front_is rs s len h =
    let n : length (body rs) ≤ len = omega (arith, h.size) in
    sym (take-take (length (body rs)) len s n) ∙ ap (take (length (body rs))) h.front ∙ take_at (body rs) (trailer rs) (length (body rs)) refl

module _ (s : List ℕ) (len : ℕ) (text : List ℕ) (o : Opened) (y : Bytes s) (is_open : Opens (opened s len) o) where
  abbrev rs : List Scan
  rs = list_of (opened s len)

  hold : Holds s len rs
  hold = holds s len rs y (opened_is (opened s len) o is_open)

  its : (o.count ≡ length rs) × (o.trailer ≡ length (body rs))
  its = told (opened s len) o is_open

  pub sizes : (o.trailer + 4 * o.count + 8 ≡ len) × (len ≤ most_bytes) × (most_bytes ≤ length s)
  sizes = (omega (arith, its, hold.size), hold.fits, hold.room)

  abbrev new : List Scan
  new = rs ++ (live text ∷ [])

  abbrev rec : List ℕ
  rec = record_of (live text)

  size_len : size rs + (7 + length text) ≡ len + (7 + length text)
  size_len = ap (λ n. n + (7 + length text)) (size_plain rs ∙ hold.long)

  module _ (short : length text ≤ limit) where
    pub add_full : most_bytes < len + (7 + length text) → adding s len text ≡ refused file_full 0
    unfolding adding
    add_full h = rw (opened_is (opened s len) o is_open, le-leb (length text) limit short, lt-leb (size rs + (7 + length text)) most_bytes (omega (arith, size_len)))

    module _ (room : len + (7 + length text) ≤ most_bytes) where
      add_good : adding s len text ≡ good new
      unfolding adding
      add_good = rw (opened_is (opened s len) o is_open, le-leb (length text) limit short, le-leb (size rs + (7 + length text)) most_bytes (omega (arith, size_len)))

      fits : o.trailer + length rec ≤ length s
      fits = omega (arith, sizes)

      new_count : length new ≡ o.count + 1
      new_count = length-append rs (live text ∷ []) ∙ omega (arith, its.0)

      new_size : length (bytes_of new) ≡ len + (7 + length text)
      new_size = sym (size_plain new) ∙ size_add rs text ∙ ap (λ n. n + (7 + length text)) (size_plain rs ∙ hold.long)

      pub added : good (record { number = o.count; length = len + (7 + length text) }) ≡ turned added_answer (adding s len text)
      added =
          let n : o.count ≡ length new - 1 = omega (arith, new_count) in
          ap (λ n. good (record { number = n; length = len + (7 + length text) })) n ∙ ap (λ n. good (record { number = length new - 1; length = n })) (sym new_size)
          ∙ sym (ap (turned added_answer) add_good)

      module _ (g : List ℕ) (e : g ≡ put_at s o.trailer rec) where
        records_then : take (o.trailer + 3 + length text) g ≡ body new
        records_then =
            let n : length (take o.trailer s ++ rec) ≡ o.trailer + 3 + length text = head_put s o.trailer rec fits ∙ omega arith in
            ap (take (o.trailer + 3 + length text)) e ∙ take_at (take o.trailer s ++ rec) (drop (o.trailer + length rec) s) (o.trailer + 3 + length text) n
            ∙ ap (λ l. l ++ rec) (ap (λ p. take p s) its.1 ∙ front_is rs s len hold)
            ∙ sym (body_append rs (live text ∷ []) ∙ ap (λ l. body rs ++ l) (one (live text)))

        scans_then : scans (o.count + 1) (take (o.trailer + 3 + length text) g) ≡ new
        scans_then = ap (λ n. scans n (take (o.trailer + 3 + length text) g)) (sym new_count) ∙ ap (scans (length new)) records_then ∙ scans_of new

        pub trailer_fits : (body (scans (o.count + 1) (take (o.trailer + 3 + length text) g)) ≡ take (o.trailer + 3 + length text) g)
            × (o.trailer + 3 + length text + 4 * (o.count + 1) + 8 ≤ most_bytes) × (most_bytes ≤ length g)
        trailer_fits = (ap body scans_then ∙ sym records_then, omega (arith, sizes, room), omega (arith, sizes, ap length e ∙ length_put s o.trailer rec fits))

        pub slice_then : over (bytes_of (scans (o.count + 1) (take (o.trailer + 3 + length text) g))) g ≡ slice_after (adding s len text) s
        slice_then =
            ap (λ l. over (bytes_of l) g) scans_then
            ∙ ap (λ l. bytes_of new ++ l) (ap (drop (length (bytes_of new))) e ∙ drop_put s o.trailer (length (bytes_of new)) rec fits (omega (arith, new_size, sizes)))
            ∙ sym (ap (λ x. slice_after x s) add_good)
