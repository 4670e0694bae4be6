-- The trailer, put behind the records that stand from the start up to t: start by start, then the count and its own start.
-- Assumes nothing.
use Prim.Native.Nat.{ℕ, suc, ◌+◌, ◌*◌, ◌≤◌, ◌<◌}
use mathlib.Core.List.{List, ◌++◌, append_assoc}
use mathlib.Core.Path.{◌≡◌, refl, sym, ap, ◌∙◌}
use native.Mathlib.Omega.{arith}
use lib.ListN.{length, get_or, take, drop, length-append}
use lib.Seq.{length-take-le, take_all, get_or-take}
use Rattle.refusal.specs.Over.{over}
use Rattle.day_file.specs.File.{Scan, four, record_of, need, body, starts, bytes_of}
use Rattle.day_file.specs.Opening.{two_at, scans}
use Rattle.day_file.specs.Plain.{numbered}
use Rattle.day_file.specs.Pieces.{put_at}
use Rattle.day_file.proofs.Standing.{length_scans}
use Rattle.day_file.proofs.Good.{length_starts}
use Rattle.day_file.proofs.Putting.{length_put, take_put, put_none, put_put, put_over}
use Rattle.day_file.proofs.Places.{in_body, length_there, within, parted, starts_more, body_more}

-- with the first i starts put
abbrev pub starts_put : (f : List ℕ) (count t i : ℕ) → List ℕ
starts_put f count t i = put_at f t (starts 0 (take i (scans count (take t f))))

abbrev pub size_put : (f : List ℕ) (count t i : ℕ) → ℕ
size_put f count t i = length (body (take i (scans count (take t f))))

-- of any slice with room for the trailer
module _ (f : List ℕ) (count t : ℕ) (e : body (scans count (take t f)) ≡ take t f) (room : t + 4 * count + 8 ≤ length f) where
  abbrev rs : List Scan
  rs = scans count (take t f)

  long : length rs ≡ count
  long = length_scans count (take t f)

  ends_at : length (body rs) ≡ t
  ends_at = ap length e ∙ length-take-le t f (omega arith)

  pub none_put : (0 ≡ size_put f count t 0) × (f ≡ starts_put f count t 0)
  unfolding body starts
  none_put = (refl, sym (put_none f t))

  module _ (i : ℕ) (h : i < count) where
    here : i < length rs
    here = omega (arith, long)

    abbrev r : Scan
    r = numbered rs i

    at_record : drop (size_put f count t i) (body rs) ≡ record_of r ++ body (drop (suc i) rs)
    at_record = ap (λ l. drop (size_put f count t i) (body l)) (parted rs i here) ∙ in_body (take i rs) r (drop (suc i) rs)

    pub record_fits : size_put f count t i + need r ≤ t
    record_fits = omega (arith, within (body rs) (size_put f count t i) r (body (drop (suc i) rs)) at_record, ends_at)

    pub one_put : put_at (starts_put f count t i) (t + 4 * i) (four (size_put f count t i)) ≡ starts_put f count t (i + 1)
    one_put =
        let n : length (take i rs) ≡ i = length-take-le i rs (omega (arith, long)) in
        put_put f t (starts 0 (take i rs)) (four (size_put f count t i)) (t + 4 * i) (omega (arith, length_starts 0 (take i rs), n)) (omega arith)
        ∙ ap (put_at f t) (sym (starts_more rs i here))

    -- the length of the record, read from what stands there then
    pub length_read : (g : List ℕ) → take t g ≡ take t f → two_at g (size_put f count t i + 1) ≡ length r.text
    length_read g q =
        let p : ℕ = size_put f count t i in
        let fits = record_fits in
        let a : get_or g (p + 1) 0 ≡ get_or (body rs) (p + 1) 0 = sym (get_or-take t g (p + 1) 0 (omega arith)) ∙ ap (λ l. get_or l (p + 1) 0) (q ∙ sym e) in
        let b : get_or g (p + 1 + 1) 0 ≡ get_or (body rs) (p + 1 + 1) 0 = sym (get_or-take t g (p + 1 + 1) 0 (omega arith)) ∙ ap (λ l. get_or l (p + 1 + 1) 0) (q ∙ sym e) in
        omega (arith, a, b, length_there (body rs) p r (body (drop (suc i) rs)) at_record)

    pub size_more : size_put f count t i + (3 + length r.text) ≡ size_put f count t (i + 1)
    size_more = sym (body_more rs i here)

  pub front_kept : (i : ℕ) → take t (starts_put f count t i) ≡ take t f
  front_kept i = take_put f t (starts 0 (take i rs)) (omega arith)

  -- the starts don't make the slice longer
  pub length_starts_put : (i : ℕ) → i ≤ count → length (starts_put f count t i) ≡ length f
  length_starts_put i h = length_put f t (starts 0 (take i rs)) (omega (arith, length_starts 0 (take i rs), length-take-le i rs (omega (arith, long))))

  -- a turn, from what stood before it
  module _ (i : ℕ) (h : i < count) (at : ℕ) (g : List ℕ) (now : (at ≡ size_put f count t i) × (g ≡ starts_put f count t i)) where
    pub turn_fits : at + 3 ≤ t
    turn_fits = omega (arith, now.0, record_fits i h)

    pub turn_more : (k : List ℕ) → k ≡ put_at g (t + 4 * i) (four at) → (n : ℕ) → n ≡ two_at k (at + 1) → (at + (3 + n) ≡ size_put f count t (i + 1)) × (k ≡ starts_put f count t (i + 1))
    turn_more k x n y =
        let file = x ∙ ap (λ l. put_at l (t + 4 * i) (four at)) now.1 ∙ ap (λ n. put_at (starts_put f count t i) (t + 4 * i) (four n)) now.0 ∙ one_put i h in
        let z : n ≡ length (numbered rs i).text = y ∙ ap (λ p. two_at k (p + 1)) now.0 ∙ length_read i h k (ap (take t) file ∙ front_kept (i + 1)) in
        (omega (arith, now.0, z, size_more i h), file)

  -- then the count and the trailer's own start
  pub all_put : (i : ℕ) → i ≡ count → put_at (put_at (starts_put f count t i) (t + 4 * count) (four count)) (t + 4 * count + 4) (four t) ≡ over (bytes_of rs) f
  unfolding bytes_of
  all_put i h =
      let w : take i rs ≡ rs = take_all i rs (omega (arith, long)) in
      let n : length (starts 0 rs) ≡ 4 * count = length_starts 0 rs ∙ ap (λ k. 4 * k) long in
      ap (λ l. put_at (put_at (put_at f t (starts 0 l)) (t + 4 * count) (four count)) (t + 4 * count + 4) (four t)) w
      ∙ ap (λ l. put_at l (t + 4 * count + 4) (four t)) (put_put f t (starts 0 rs) (four count) (t + 4 * count) (omega (arith, n)) (omega arith))
      ∙ put_put f t (starts 0 rs ++ four count) (four t) (t + 4 * count + 4) (omega (arith, n, length-append (starts 0 rs) (four count))) (omega arith)
      ∙ put_over f t (body rs) (starts 0 rs ++ four count ++ four t) (sym e) (omega arith)
      ∙ ap (λ l. over (body rs ++ l) f) (append_assoc (starts 0 rs) (four count) (four t) ∙ ap (λ k. starts 0 rs ++ (four k ++ four t)) (sym long) ∙ ap (λ k. starts 0 rs ++ (four (length rs) ++ four k)) (sym ends_at))

  pub turn_end : (i : ℕ) → i ≡ count → (g k m : List ℕ) → g ≡ starts_put f count t i → k ≡ put_at g (t + 4 * count) (four count) → m ≡ put_at k (t + 4 * count + 4) (four t) → m ≡ over (bytes_of rs) f
  turn_end i h g k m w x y = y ∙ ap (λ l. put_at l (t + 4 * count + 4) (four t)) (x ∙ ap (λ l. put_at l (t + 4 * count) (four count)) w) ∙ all_put i h
