-- The record of a number in a file that was opened: its start, its state, its length and its text, and withdrawing it.
-- Assumes nothing.
use Prim.Native.Nat.{ℕ, suc, ◌+◌, ◌*◌, ◌≤◌, ◌<◌}
use mathlib.Core.Bool.{true}
use mathlib.Core.List.{List, ◌∷◌, ◌++◌, append-nil}
use mathlib.Core.Path.{◌≡◌, refl, sym, ap, ◌∙◌}
use native.Mathlib.Omega.{arith}
use lib.Dec.{leb, ltb, eqb}
use lib.ListN.{length, get_or, set, take, drop, length-append, length-drop, length-set, drop_of_length-le}
use lib.Seq.{length-take-le, set_split}
use borrow.Author.Tests.{lt-ltb, eq-eqb, ne_eqb, ltb-true, eqb-true}
use Rattle.refusal.specs.Answers.{Answer, good, refused, ◌>>◌, check}
use Rattle.refusal.specs.Numbers.{no_scan, text_too_long}
use Rattle.refusal.specs.Limits.{limit}
use Rattle.refusal.specs.Over.{over}
use Rattle.refusal.proofs.Binds.{by_bind, by_check, same_good, not_refused}
use Rattle.day_file.specs.File.{Scan, most_bytes, record_of, need, body, trailer, states, bytes_of}
use Rattle.day_file.specs.Opening.{two_at, four_at, scan_at, records, opened}
use Rattle.day_file.specs.Plain.{numbered, withdrawn, found}
use Rattle.day_file.specs.Promise.{withdrawing, placing}
use Rattle.day_file.specs.Opens.{Opens, finding, list_of}
use Rattle.day_file.specs.declared.Opened.{Opened}
use Rattle.day_file.proofs.Bytes.{Bytes}
use Rattle.day_file.proofs.Standing.{scan_of}
use Rattle.day_file.proofs.Good.{accepted, size_is}
use Rattle.day_file.proofs.Holding.{holds}
use Rattle.day_file.proofs.Places.{state_there, length_there, text_there, within, in_file, start_there, one_byte, parted}

-- an answer that was opened
pub opened_is : (x : Answer (List Scan)) (o : Opened) → Opens x o → x ≡ good (list_of x)
opened_is (good rs) o e = refl
opened_is (refused k p) o e = not_refused e

pub told : (x : Answer (List Scan)) (o : Opened) → Opens x o → (o.count ≡ length (list_of x)) × (o.trailer ≡ length (body (list_of x)))
told (good rs) o e = (ap (λ (o : Opened). o.count) (same_good e), ap (λ (o : Opened). o.trailer) (same_good e))
told (refused k p) o e = not_refused e

-- a slice that begins with the file of rs, of the length len, and what opening it told
pub record Known (s : List ℕ) (len : ℕ) (o : Opened) (rs : List Scan) : Type 0 where
  pub whole : over (bytes_of rs) s ≡ s
  pub small : states rs ≡ true
  pub count : o.count ≡ length rs
  pub trails : o.trailer ≡ length (body rs)
  pub size : o.trailer + 4 * o.count + 8 ≡ len
  pub within : len ≤ length s
  pub fits : len ≤ most_bytes

-- an answer gives `search rules` for y, which finds that the slice holds bytes
pub known : (s : List ℕ) (len : ℕ) (o : Opened) → Bytes s → Opens (opened s len) o → Known s len o (list_of (opened s len))
known s len o y e =
    let h = holds s len (list_of (opened s len)) y (opened_is (opened s len) o e) in
    let t = told (opened s len) o e in
    record { whole = h.whole; small = h.small; count = t.0; trails = t.1; size = omega (arith, t, h.size); within = omega (arith, h.room, h.fits); fits = h.fits }

pub known_whole : (f : List ℕ) (o : Opened) → Bytes f → Opens (records f) o → Known f (length f) o (list_of (records f))
known_whole f o y e =
    let rs : List Scan = list_of (records f) in
    let a = (accepted f y rs (opened_is (records f) o e)).file in
    let t = told (records f) o e in record {
      whole = ap (λ l. over l f) a.whole ∙ ap (λ l. f ++ l) (drop_of_length-le f {i = length f} (omega arith)) ∙ append-nil f;
      small = a.small;
      count = t.0;
      trails = t.1;
      size = omega (arith, t, size_is rs, ap length a.whole);
      within = omega arith;
      fits = a.fits;
    }

module _ (s : List ℕ) (rs : List Scan) (whole : over (bytes_of rs) s ≡ s) (k : ℕ) (h : k < length rs) where
  abbrev xs : List Scan
  xs = take k rs

  abbrev r : Scan
  r = numbered rs k

  abbrev ys : List Scan
  ys = drop (suc k) rs

  abbrev rest : List ℕ
  rest = drop (length (bytes_of rs)) s

  parts : rs ≡ xs ++ r ∷ ys
  parts = parted rs k h

  -- the slice, as the records before it, itself, and those behind it
  slice_is : s ≡ bytes_of (xs ++ r ∷ ys) ++ rest
  slice_is = sym whole ∙ ap (λ l. bytes_of l ++ rest) parts

  pub start_is : four_at s (length (body rs) + 4 * k) ≡ length (body (take k rs))
  start_is =
      let n : 4 * k ≡ 4 * length xs = ap (λ m. 4 * m) (sym (length-take-le k rs (omega arith))) in
      ap (λ l. four_at l (length (body rs) + 4 * k)) slice_is
      ∙ ap (λ m. four_at (bytes_of (xs ++ r ∷ ys) ++ rest) (length (body rs) + m)) n
      ∙ ap (λ l. four_at (bytes_of (xs ++ r ∷ ys) ++ rest) (length (body l) + 4 * length xs)) parts
      ∙ start_there xs r ys rest

  pub at_it : drop (length (body xs)) s ≡ record_of r ++ (body ys ++ (trailer (xs ++ r ∷ ys) ++ rest))
  at_it = ap (drop (length (body xs))) slice_is ∙ in_file xs r ys rest

  pub state_is : get_or s (length (body (take k rs))) 0 ≡ r.state
  state_is = state_there s (length (body xs)) r _ at_it

  pub length_is : two_at s (length (body (take k rs)) + 1) ≡ length r.text
  length_is = length_there s (length (body xs)) r _ at_it

  pub text_is : take (length r.text) (drop (length (body (take k rs)) + 3) s) ≡ r.text
  text_is = text_there s (length (body xs)) r _ at_it

  pub inside : length (body (take k rs)) + (3 + length r.text) ≤ length s
  inside = within s (length (body xs)) r _ at_it

  pub withdrawn_is : set s (length (body (take k rs))) 0 ≡ over (bytes_of (set rs k (withdrawn r))) s
  withdrawn_is =
      let q : set rs k (withdrawn r) ≡ xs ++ withdrawn r ∷ ys = set_split rs k (withdrawn r) h in
      let b : set s (length (body xs)) 0 ≡ bytes_of (set rs k (withdrawn r)) ++ rest =
      ap (λ l. set l (length (body xs)) 0) slice_is ∙ one_byte xs ys r rest ∙ ap (λ l. bytes_of l ++ rest) (sym q) in
      b ∙ ap (λ n. bytes_of (set rs k (withdrawn r)) ++ drop n s) (same_length_of b)
    where
      same_length_of : set s (length (body (take k rs))) 0 ≡ bytes_of (set rs k (withdrawn (numbered rs k))) ++ drop (length (bytes_of rs)) s → length (bytes_of rs) ≡ length (bytes_of (set rs k (withdrawn (numbered rs k))))
      same_length_of b = omega (arith, ap length b, length-set s (length (body (take k rs))) 0, length-append (bytes_of (set rs k (withdrawn (numbered rs k)))) (drop (length (bytes_of rs)) s), length-drop (length (bytes_of rs)) s, ap length whole, length-append (bytes_of rs) (drop (length (bytes_of rs)) s))

-- where the trailer says that a record starts: it stands there whole
pub record Starts (s : List ℕ) (rs : List Scan) (number start : ℕ) : Type 0 where
  pub low : number < length rs
  pub is : start ≡ length (body (take number rs))
  pub room : start + need (numbered rs number) ≤ length s
  pub state : get_or s start 0 ≡ (numbered rs number).state
  pub size : two_at s (start + 1) ≡ length (numbered rs number).text
  pub scan : scan_at (drop start s) ≡ numbered rs number

module _ (s : List ℕ) (len : ℕ) (o : Opened) (rs : List Scan) (k : Known s len o rs) (number : ℕ) (h : number < o.count) where
  pub entry_fits : (o.trailer + 4 * number + 4 ≤ length s) × (o.trailer + 4 * number + 8 ≤ most_bytes)
  entry_fits = (omega (arith, h, k.size, k.within), omega (arith, h, k.size, k.fits))

  pub starts_at : (start : ℕ) → start ≡ four_at s (o.trailer + 4 * number) → Starts s rs number start
  starts_at start e =
      let low : number < length rs = omega (arith, h, k.count) in
      let is : start ≡ length (body (take number rs)) = e ∙ ap (λ t. four_at s (t + 4 * number)) k.trails ∙ start_is s rs k.whole number low in record {
        low = low;
        is = is;
        room = omega (arith, is, inside s rs k.whole number low);
        state = ap (λ p. get_or s p 0) is ∙ state_is s rs k.whole number low;
        size = ap (λ p. two_at s (p + 1)) is ∙ length_is s rs k.whole number low;
        scan = ap (λ p. scan_at (drop p s)) is ∙ ap scan_at (at_it s rs k.whole number low) ∙ scan_of (numbered rs number) _;
      }

-- a record that was found: it is live, and starts there
pub record Found (s : List ℕ) (len k start : ℕ) : Type 0 where
  pub rs : List Scan
  pub is : opened s len ≡ good rs
  pub whole : over (bytes_of rs) s ≡ s
  pub low : k < length rs
  pub live : (numbered rs k).state ≡ 1
  pub at : start ≡ length (body (take k rs))

module _ (s : List ℕ) (len k start : ℕ) where
  pub found_at : Bytes s → good start ≡ finding s len k → Found s len k start
  found_at y e =
      by_bind (opened s len) _ (sym e) λ rs e₁ e.
      by_bind (found k rs) _ e λ r e₂ e.
      by_check (ltb k (length rs)) no_scan 0 _ e₂ λ t₁ e₃.
      by_check (eqb (numbered rs k).state 1) no_scan 0 _ e₃ λ t₂ e₄.
      record { rs = rs; is = e₁; whole = (holds s len rs y e₁).whole; low = ltb-true k (length rs) t₁; live = eqb-true (numbered rs k).state 1 t₂; at = sym (same_good e) }

  module _ (f : Found s len k start) where
    pub placing_is : (n : ℕ) → n ≡ two_at s (start + 1) → placing s len k ≡ (check (leb n limit) text_too_long 0 >> good (record { start = start + 3; length = n }))
    placing_is n e =
        let size : n ≡ length (numbered f.rs k).text = e ∙ ap (λ p. two_at s (p + 1)) f.at ∙ length_is s f.rs f.whole k f.low in
        rw (f.is, lt-ltb k (length f.rs) f.low, eq-eqb (numbered f.rs k).state 1 f.live, size, f.at) refl

    pub withdrawing_is : withdrawing s len k ≡ good (set f.rs k (withdrawn (numbered f.rs k)))
    unfolding withdrawing
    withdrawing_is = rw (f.is, lt-ltb k (length f.rs) f.low, eq-eqb (numbered f.rs k).state 1 f.live)

    pub gone : set s start 0 ≡ over (bytes_of (set f.rs k (withdrawn (numbered f.rs k)))) s
    gone = ap (λ p. set s p 0) f.at ∙ withdrawn_is s f.rs f.whole k f.low

-- the tests of a record that the trailer tells
module _ (s : List ℕ) (len : ℕ) (rs : List Scan) (e : opened s len ≡ good rs) (k : ℕ) (start : ℕ) (w : Starts s rs k start) where
  pub not_found : (get_or s start 0 ≡ 1 → ⊥) → finding s len k ≡ refused no_scan 0
  not_found g = rw (e, lt-ltb k (length rs) w.low, ne_eqb (numbered rs k).state 1 (λ q. g (w.state ∙ q)))

  pub is_found : get_or s start 0 ≡ 1 → finding s len k ≡ good start
  is_found g = rw (e, lt-ltb k (length rs) w.low, eq-eqb (numbered rs k).state 1 (sym w.state ∙ g), w.is)
