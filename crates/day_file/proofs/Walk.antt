-- The walk over the records, record by record: what each test of `Opened::stands` decides.
-- Assumes nothing.
use Prim.Native.Nat.{ℕ, suc, ◌+◌, ◌-◌, ◌*◌, ◌≤◌, ◌<◌}
use mathlib.Core.Bool.{Bool, true, false}
use mathlib.Core.List.{List}
use mathlib.Core.Path.{◌≡◌, refl, sym, ap, ◌∙◌}
use native.Mathlib.Omega.{arith}
use lib.Dec.{eqb}
use lib.ListN.{length, get_or, take, drop}
use lib.Seq.{get_or-drop, get_or-take, drop-drop, length-slice}
use borrow.Author.Tests.{le-leb, lt-leb, eq-eqb, ne_eqb, eqb-true, eqb-false}
use Rattle.day_file.specs.Opening.{two_at, four_at, size_at, standing}
use Rattle.day_file.proofs.Good.{four_drop}

module _ (k at : ℕ) (l t : List ℕ) where
  too_short : length l < 3 → standing (suc k) at l t ≡ false
  unfolding standing
  too_short h = rw (lt-leb 3 (length l) h)

  module _ (h3 : 3 ≤ length l) where
    bad_state : 1 < get_or l 0 0 → standing (suc k) at l t ≡ false
    unfolding standing
    bad_state h = rw (le-leb 3 (length l) h3, lt-leb (get_or l 0 0) 1 h)

    module _ (h1 : get_or l 0 0 ≤ 1) where
      too_long : length l < size_at l → standing (suc k) at l t ≡ false
      unfolding standing
      too_long h = rw (le-leb 3 (length l) h3, le-leb (get_or l 0 0) 1 h1, lt-leb (size_at l) (length l) h)

      module _ (hs : size_at l ≤ length l) where
        bad_start : (four_at t 0 ≡ at → ⊥) → standing (suc k) at l t ≡ false
        unfolding standing
        bad_start h = rw (le-leb 3 (length l) h3, le-leb (get_or l 0 0) 1 h1, le-leb (size_at l) (length l) hs, ne_eqb (four_at t 0) at h)

        goes_on : four_at t 0 ≡ at → standing (suc k) at l t ≡ standing k (at + size_at l) (drop (size_at l) l) (drop 4 t)
        unfolding standing
        goes_on h = rw (le-leb 3 (length l) h3, le-leb (get_or l 0 0) 1 h1, le-leb (size_at l) (length l) hs, eq-eqb (four_at t 0) at h)

-- the record at `at`, number i of `count`, in a file f whose trailer begins at t
abbrev pub stands_at : (f : List ℕ) (count t i at : ℕ) → Bool
stands_at f count t i at = standing (count - i) at (drop at (take t f)) (drop (t + 4 * i) f)

module _ (f : List ℕ) (count t : ℕ) (room : t + 4 * count ≤ length f) where
  abbrev here : (i at : ℕ) → Bool
  here i at = stands_at f count t i at

  pub at_first : here 0 0 ≡ standing count 0 (take t f) (drop t f)
  at_first =
      let a : count - 0 ≡ count = omega arith in
      let b : t + 4 * 0 ≡ t = omega arith in
      ap (λ n. standing n 0 (take t f) (drop (t + 4 * 0) f)) a ∙ ap (λ n. standing count 0 (take t f) (drop n f)) b

  module _ (i at : ℕ) (less : i < count) where
    one_more : count - i ≡ suc (count - (i + 1))
    one_more = omega arith

    rest_long : length (drop at (take t f)) ≡ t - at
    rest_long = length-slice at t f (omega arith)

    pub stops_short : t < at + 3 → false ≡ here i at
    stops_short h = sym (ap (λ n. standing n at (drop at (take t f)) (drop (t + 4 * i) f)) one_more ∙ too_short (count - (i + 1)) at (drop at (take t f)) (drop (t + 4 * i) f) (omega (arith, rest_long)))

    module _ (h3 : at + 3 ≤ t) where
      byte : (j : ℕ) → j < 3 → get_or (drop at (take t f)) j 0 ≡ get_or f (at + j) 0
      byte j h = get_or-drop at (take t f) j 0 ∙ get_or-take t f (at + j) 0 (omega arith)

      first : get_or (drop at (take t f)) 0 0 ≡ get_or f at 0
      first = byte 0 (omega arith) ∙ ap (λ (n : ℕ). get_or f n 0) (omega arith)

      length_there : two_at (drop at (take t f)) 1 ≡ two_at f (at + 1)
      length_there = omega (arith, byte 1 (omega arith), byte 2 (omega arith), ap (λ n. get_or f n 0) two_on)
        where
          two_on : at + 2 ≡ at + 1 + 1
          two_on = omega arith

      long3 : 3 ≤ length (drop at (take t f))
      long3 = omega (arith, rest_long)

      pub stops_state : 1 < get_or f at 0 → false ≡ here i at
      stops_state h = sym (ap (λ n. standing n at (drop at (take t f)) (drop (t + 4 * i) f)) one_more ∙ bad_state (count - (i + 1)) at (drop at (take t f)) (drop (t + 4 * i) f) long3 (omega (arith, first)))

      module _ (h1 : get_or f at 0 ≤ 1) where
        pub stops_long : t < at + (3 + two_at f (at + 1)) → false ≡ here i at
        stops_long h =
            sym (ap (λ n. standing n at (drop at (take t f)) (drop (t + 4 * i) f)) one_more
            ∙ too_long (count - (i + 1)) at (drop at (take t f)) (drop (t + 4 * i) f) long3 (omega (arith, first)) (omega (arith, rest_long, length_there)))

        module _ (hs : at + (3 + two_at f (at + 1)) ≤ t) where
          pub stops_start : (four_at f (t + 4 * i) ≡ at → ⊥) → false ≡ here i at
          stops_start h =
              sym (ap (λ n. standing n at (drop at (take t f)) (drop (t + 4 * i) f)) one_more
              ∙ bad_start (count - (i + 1)) at (drop at (take t f)) (drop (t + 4 * i) f) long3 (omega (arith, first)) (omega (arith, rest_long, length_there)) (λ e. h (sym (four_drop (t + 4 * i) f) ∙ e)))

          pub goes_further : four_at f (t + 4 * i) ≡ at → here (i + 1) (at + (3 + two_at f (at + 1))) ≡ here i at
          goes_further h =
              let l : List ℕ = drop at (take t f) in
              let tr : List ℕ = drop (t + 4 * i) f in
              let k : ℕ = count - (i + 1) in
              let b : t + 4 * i + 4 ≡ t + 4 * (i + 1) = omega arith in
              let n : size_at l ≡ 3 + two_at f (at + 1) = ap (λ m. 3 + m) length_there in
              sym (ap (λ n. standing n at l tr) one_more
              ∙ goes_on k at l tr long3 (omega (arith, first)) (omega (arith, rest_long, length_there)) (four_drop (t + 4 * i) f ∙ h)
              ∙ ap (λ m. standing k (at + m) (drop m l) (drop 4 tr)) n
              ∙ ap (λ m. standing k (at + (3 + two_at f (at + 1))) m (drop 4 tr)) (drop-drop (3 + two_at f (at + 1)) at (take t f))
              ∙ ap (λ m. standing k (at + (3 + two_at f (at + 1))) (drop (at + (3 + two_at f (at + 1))) (take t f)) m) (drop-drop 4 (t + 4 * i) f ∙ ap (λ m. drop m f) b))

  pub ends : (i at : ℕ) → count ≤ i → at ≤ t → eqb at t ≡ here i at
  unfolding standing
  ends i at h k =
      let z : count - i ≡ 0 = omega arith in
      sym (ap (λ n. standing n at (drop at (take t f)) (drop (t + 4 * i) f)) z ∙ ap (λ n. eqb n 0) (length-slice at t f (omega arith)) ∙ go (eqb at t) refl)
    where
      go : (b : Bool) → eqb at t ≡ b → eqb (t - at) 0 ≡ eqb at t
      go true e = eq-eqb (t - at) 0 (omega (arith, eqb-true at t e)) ∙ sym e
      go false e = let ne : at ≡ t → ⊥ = eqb-false at t e in ne_eqb (t - at) 0 (λ z. ne (omega arith)) ∙ sym e
