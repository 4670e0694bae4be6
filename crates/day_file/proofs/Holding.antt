-- A file in a lent slice: what stands there where it is opened, and that the file of a list, put there, is opened as that list.
-- Assumes nothing.
use Prim.Native.Nat.{ℕ, ◌+◌, ◌*◌, ◌≤◌}
use mathlib.Core.Bool.{true}
use mathlib.Core.List.{List, ◌++◌}
use mathlib.Core.Path.{◌≡◌, refl, sym, ap, ◌∙◌}
use native.Mathlib.Omega.{arith}
use lib.Dec.{leb}
use lib.ListN.{length, take, drop, length-append, length-drop, take-append-drop}
use lib.Seq.{length-take-le, take_at}
use borrow.Author.Tests.{leb-true, le-leb}
use Rattle.refusal.specs.Answers.{good}
use Rattle.refusal.specs.Numbers.{lent_too_short, bad_file}
use Rattle.refusal.specs.Over.{over}
use Rattle.refusal.proofs.Binds.{by_check}
use Rattle.day_file.specs.File.{Scan, most_bytes, body, states, bytes_of}
use Rattle.day_file.specs.Opening.{records, opened}
use Rattle.day_file.proofs.Bytes.{Bytes, bytes_take}
use Rattle.day_file.proofs.Good.{accepted, accepts, size_is}

-- the slice s holds the file of rs, of the length len
pub record Holds (s : List ℕ) (len : ℕ) (rs : List Scan) : Type 0 where
  pub room : most_bytes ≤ length s
  pub whole : over (bytes_of rs) s ≡ s
  pub front : take len s ≡ bytes_of rs
  pub long : length (bytes_of rs) ≡ len
  pub fits : len ≤ most_bytes
  pub small : states rs ≡ true
  pub size : length (body rs) + 4 * length rs + 8 ≡ len

pub holds : (s : List ℕ) (len : ℕ) (rs : List Scan) → Bytes s → opened s len ≡ good rs → Holds s len rs
unfolding opened
holds s len rs y e =
    by_check (leb most_bytes (length s)) lent_too_short 0 _ e λ e1 e.
    by_check (leb len most_bytes) bad_file 0 _ e λ e2 e.
    let h1 : most_bytes ≤ length s = leb-true most_bytes (length s) e1 in
    let h2 : len ≤ most_bytes = leb-true len most_bytes e2 in
    let f = (accepted (take len s) (bytes_take len s y) rs e).file in
    let n : length (bytes_of rs) ≡ len = ap length f.whole ∙ length-take-le len s (omega arith) in
    record {
      room = h1;
      whole = ap (λ k. bytes_of rs ++ drop k s) n ∙ ap (λ l. l ++ drop len s) f.whole ∙ take-append-drop len s;
      front = sym f.whole;
      long = n;
      fits = h2;
      small = f.small;
      size = sym (size_is rs) ∙ n;
    }

pub opens : (s : List ℕ) (rs : List Scan) → most_bytes ≤ length s → states rs ≡ true → length (bytes_of rs) ≤ most_bytes
    → opened (over (bytes_of rs) s) (length (bytes_of rs)) ≡ good rs
unfolding opened
opens s rs room small fits =
    let f : List ℕ = bytes_of rs in
    let n : length (f ++ drop (length f) s) ≡ length s = length-append f (drop (length f) s) ∙ ap (λ k. length f + k) (length-drop (length f) s) ∙ omega arith in
    let c1 : leb most_bytes (length (f ++ drop (length f) s)) ≡ true = le-leb most_bytes (length (f ++ drop (length f) s)) (omega arith) in
    let c2 : leb (length f) most_bytes ≡ true = le-leb _ _ fits in
    let c3 : take (length f) (f ++ drop (length f) s) ≡ f = take_at f (drop (length f) s) (length f) refl in
    rw (c1, c2) (ap records c3 ∙ accepts rs small fits)
