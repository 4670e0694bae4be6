-- The live records moved to the front: what stands there after i records, and behind them what stood there before.
-- Assumes nothing.
use Prim.Native.Nat.{ℕ, suc, ◌+◌, ◌-◌, ◌*◌, ◌≤◌, ◌<◌}
use mathlib.Core.List.{List, [], ◌∷◌, ◌++◌, append-nil}
use mathlib.Core.Path.{◌≡◌, refl, sym, ap, ◌∙◌}
use native.Mathlib.Omega.{arith}
use lib.ListN.{length, get_or, take, drop, length-append, length-drop}
use lib.Seq.{drop-drop, take_at, take_all, paste, take-paste, drop-paste, length-paste}
use Rattle.day_file.specs.File.{Scan, record_of, need, body, trailer, bytes_of}
use Rattle.day_file.specs.Opening.{two_at, four_at}
use Rattle.day_file.specs.Plain.{numbered}
use Rattle.day_file.specs.declared.Opened.{Opened}
use Rattle.day_file.proofs.Good.{four_drop}
use Rattle.day_file.proofs.Places.{state_there, length_there, within, body_append, body_more, parted, in_body}
use Rattle.day_file.proofs.Numbered.{Known, start_is, inside, at_it}
use Rattle.squeeze.specs.Squeeze.{live_ones}
use Rattle.squeeze.proofs.Live.{live_in, live_out}

-- the same from a on, so the same from any place behind
pub same_behind : (f g : List ℕ) (a p : ℕ) → drop a f ≡ drop a g → a ≤ p → drop p f ≡ drop p g
same_behind f g a p e h =
    let n : p ≡ a + (p - a) = omega arith in
    ap (λ m. drop m f) n ∙ sym (drop-drop (p - a) a f) ∙ ap (drop (p - a)) e ∙ drop-drop (p - a) a g ∙ ap (λ m. drop m g) (sym n)

-- after i records of the file of rs in s, `to` bytes of g hold the live ones
pub record Gathered (s : List ℕ) (rs : List Scan) (i to : ℕ) (g : List ℕ) : Type 0 where
  pub size : to ≡ length (body (live_ones (take i rs)))
  pub front : take to g ≡ body (live_ones (take i rs))
  pub behind : drop (length (body (take i rs))) g ≡ drop (length (body (take i rs))) s
  pub long : length g ≡ length s
  pub down : to ≤ length (body (take i rs))

one_body : (r : Scan) → body (r ∷ []) ≡ record_of r
unfolding body
one_body r = append-nil (record_of r)

pub none_gathered : (s : List ℕ) (rs : List Scan) → Gathered s rs 0 0 s
unfolding body live_ones
none_gathered s rs = record { size = refl; front = refl; behind = refl; long = refl; down = omega arith }

module _ (s : List ℕ) (len : ℕ) (o : Opened) (rs : List Scan) (k : Known s len o rs) (i : ℕ) (h : i < o.count) (to : ℕ) (g : List ℕ) (w : Gathered s rs i to g) where
  abbrev r : Scan
  r = numbered rs i

  abbrev A : ℕ
  A = length (body (take i rs))

  abbrev more : List ℕ
  more = body (drop (suc i) rs) ++ (trailer (take i rs ++ r ∷ drop (suc i) rs) ++ drop (length (bytes_of rs)) s)

  in_it : i < length rs
  in_it = omega (arith, k.count)

  at_g : drop A g ≡ record_of r ++ more
  at_g = w.behind ∙ at_it s rs k.whole i in_it

  before_t : A + need r ≤ o.trailer
  before_t =
      omega (arith, within (body rs) A r (body (drop (suc i) rs)) (ap (λ l. drop A (body l)) (parted rs i in_it) ∙ in_body (take i rs) r (drop (suc i) rs)), k.trails)

  -- a start, read from what stands there now
  begins : (j : ℕ) → j < o.count → four_at g (o.trailer + 4 * j) ≡ length (body (take j rs))
  begins j hj =
      sym (four_drop (o.trailer + 4 * j) g) ∙ ap (λ l. four_at l 0) (same_behind g s A (o.trailer + 4 * j) w.behind (omega (arith, before_t))) ∙ four_drop (o.trailer + 4 * j) s
      ∙ ap (λ m. four_at s (m + 4 * j)) k.trails ∙ start_is s rs k.whole j (omega (arith, hj, k.count))

  pub begins_inside : (j : ℕ) → j < o.count → (from : ℕ) → from ≡ four_at g (o.trailer + 4 * j) → from + 3 ≤ length g
  begins_inside j hj from e = omega (arith, e, begins j hj, w.long, inside s rs k.whole j (omega (arith, hj, k.count)))

  module _ (from : ℕ) (e : from ≡ four_at g (o.trailer + 4 * i)) where
    from_is : from ≡ A
    from_is = e ∙ begins i h

    size_now : 3 + two_at g (from + 1) ≡ need r
    size_now = ap (λ p. 3 + two_at g (p + 1)) from_is ∙ ap (λ n. 3 + n) (length_there g A r more at_g)

    pub state_now : get_or g from 0 ≡ r.state
    state_now = ap (λ p. get_or g p 0) from_is ∙ state_there g A r more at_g

    pub fits_now : (to ≤ from) × (from + (3 + two_at g (from + 1)) ≤ length g)
    fits_now = (omega (arith, from_is, w.down), omega (arith, from_is, size_now, w.long, inside s rs k.whole i in_it))

    next_start : length (body (take (i + 1) rs)) ≡ A + need r
    next_start = body_more rs i in_it

    pub passed : (get_or g from 0 ≡ 1 → ⊥) → Gathered s rs (i + 1) to g
    passed gone =
        let f : body (live_ones (take (i + 1) rs)) ≡ body (live_ones (take i rs)) = ap body (live_out rs i in_it (λ q. gone (state_now ∙ q))) in
        record {
          size = w.size ∙ ap length (sym f);
          front = w.front ∙ sym f;
          behind = same_behind g s A (length (body (take (i + 1) rs))) w.behind (omega (arith, next_start));
          long = w.long;
          down = omega (arith, next_start, w.down);
        }

    pub kept : get_or g from 0 ≡ 1 → (n : ℕ) → n ≡ 3 + two_at g (from + 1) → (g' : List ℕ) → g' ≡ paste g to (drop from g) n → Gathered s rs (i + 1) (to + n) g'
    kept live n x g' z₀ =
        let size : n ≡ need r = x ∙ size_now in
        let z : g' ≡ paste g to (drop A g) (need r) = z₀ ∙ ap (λ p. paste g to (drop p g) n) from_is ∙ ap (paste g to (drop A g)) size in
        let fits : A + need r ≤ length g = omega (arith, w.long, inside s rs k.whole i in_it) in
        let d : need r ≤ length (drop A g) = omega (arith, length-drop A g, fits) in
        let f : body (live_ones (take (i + 1) rs)) ≡ body (live_ones (take i rs)) ++ record_of r =
        ap body (live_in rs i in_it (sym state_now ∙ live)) ∙ body_append (live_ones (take i rs)) (r ∷ []) ∙ ap (λ l. body (live_ones (take i rs)) ++ l) (one_body r) in
        let c : drop (to + need r) g' ≡ drop (to + need r) g = ap (drop (to + need r)) z ∙ drop-paste g to (drop A g) (need r) (omega (arith, w.down, fits)) d in
        record {
          size = omega (arith, size, w.size, ap length f ∙ length-append (body (live_ones (take i rs))) (record_of r));
          front =
              ap (λ m. take (to + m) g') size ∙ ap (take (to + need r)) z ∙ take-paste g to (drop A g) (need r) (omega (arith, w.down, fits)) d
              ∙ ap (λ m. m ++ take (need r) (drop A g)) w.front
              ∙ ap (λ m. body (live_ones (take i rs)) ++ m) (ap (take (need r)) at_g ∙ take_at (record_of r) more (need r) (omega arith))
              ∙ sym f;
          behind =
              same_behind g' g (to + need r) (length (body (take (i + 1) rs))) c (omega (arith, next_start, w.down))
              ∙ same_behind g s A (length (body (take (i + 1) rs))) w.behind (omega (arith, next_start));
          long = ap length z ∙ length-paste g to (drop A g) (need r) (omega (arith, w.down, fits)) d ∙ w.long;
          down = omega (arith, size, next_start, w.down);
        }

pub all_gathered : (s : List ℕ) (len : ℕ) (o : Opened) (rs : List Scan) (k : Known s len o rs) (i to : ℕ) (g : List ℕ) → o.count ≤ i → Gathered s rs i to g
    → (to ≡ length (body (live_ones rs))) × (take to g ≡ body (live_ones rs)) × (drop o.trailer g ≡ drop o.trailer s)
all_gathered s len o rs k i to g h w =
    let a : take i rs ≡ rs = take_all i rs (omega (arith, k.count)) in
    let n : o.trailer ≡ length (body (take i rs)) = k.trails ∙ ap (λ l. length (body l)) (sym a) in
    (w.size ∙ ap (λ l. length (body (live_ones l))) a, w.front ∙ ap (λ l. body (live_ones l)) a, ap (λ m. drop m g) n ∙ w.behind ∙ ap (λ m. drop m s) (sym n))
