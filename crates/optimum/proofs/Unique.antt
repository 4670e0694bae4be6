-- There is one best symbol at most: two are as long and have as many codewords before the first pad, each of these two parts is
-- not above the other, and the pads are settled.
-- Assumes nothing.
use Prim.Native.Nat.{ℕ, ◌<◌}
use mathlib.Core.Bool.{Bool, true, false}
use mathlib.Core.List.{List, ◌∷◌}
use mathlib.Core.Path.{◌≡◌, refl, ap, sym, ◌∙◌}
use native.Mathlib.Omega.{arith}
use lib.Dec.{ltb}
use lib.ListN.{length, take, get_or}
use lib.Seq.{ext_get_or, get_or-take}
use borrow.Author.Tests.{ltb-true, ltb-false}
use Rattle.codeword.specs.Pads.{pad_at}
use Rattle.codeword.specs.Best.{used, ◌≼◌, none_differs, differs, equals, Best}

between : {v w x y : List ℕ} → v ≼ w → x ≼ y → x ≡ w → y ≡ v → v ≡ w
between none_differs r e f = refl
between (differs h) none_differs e f = absurd (cc)
between (differs {a = a} {b = b} h) (differs {a = c} {b = d} g) e f =
    let p : c ≡ b = cc in
    let q : d ≡ a = cc in
    absurd (omega arith)
between (differs {a = a} {b = b} h) (equals {a = c} g) e f =
    let p : c ≡ b = cc in
    let q : c ≡ a = cc in
    absurd (omega arith)
between (equals h) none_differs e f = absurd (cc)
between (equals {a = a} h) (differs {a = c} {b = d} g) e f =
    let p : c ≡ a = cc in
    let q : d ≡ a = cc in
    absurd (omega arith)
between (equals {a = a} {v = v} {w = w} h) (equals {v = x} {w = y} g) e f =
    let p : x ≡ w = cc in
    let q : y ≡ v = cc in
    ap (λ l. a ∷ l) (between h g p q)

both_ways : {v w : List ℕ} → v ≼ w → w ≼ v → v ≡ w
both_ways h g = between h g refl refl

pub one_best : (t : List ℕ) (max : ℕ) (ws vs : List ℕ) → Best t max ws → Best t max vs → ws ≡ vs
one_best t max ws vs B D = ext_get_or 0 ws vs len each
  where
    len : length ws ≡ length vs
    len = omega (arith, B.smallest vs D.symbol, D.smallest ws B.symbol)

    cnt : used ws ≡ used vs
    cnt = omega (arith, B.fewest vs D.symbol (sym len), D.fewest ws B.symbol len)

    front : take (used ws) ws ≡ take (used ws) vs
    front = both_ways (rw (← cnt) at (D.largest ws B.symbol len cnt)) (B.largest vs D.symbol (sym len) (sym cnt))

    each : (i : ℕ) → i < length ws → get_or ws i 0 ≡ get_or vs i 0
    each i h = go (ltb i (used ws)) refl
      where
        go : (x : Bool) → ltb i (used ws) ≡ x → get_or ws i 0 ≡ get_or vs i 0
        go true e =
            let l = ltb-true i (used ws) e in
            sym (get_or-take (used ws) ws i 0 l) ∙ ap (λ l. get_or l i 0) front ∙ get_or-take (used ws) vs i 0 l
        go false e =
            let l = ltb-false i (used ws) e in
            B.padding i l h ∙ ap (λ n. pad_at n i) cnt ∙ sym (D.padding i (omega (arith, cnt)) (omega (arith, len)))
