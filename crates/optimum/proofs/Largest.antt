-- Of all codewords that read as the text in as many codewords before the pads, the writer's are the largest. Beside the writer's
-- move, other codewords begin smaller or with the same move: a larger beginning would have a rest that the writer, by the lower
-- bound, would have found cheap enough. Then by recursion on the count.
-- Assumes nothing.
use Prim.Native.Nat.{ℕ, zero, suc, ◌+◌, ◌-◌, ◌*◌, ◌/◌, ◌%◌, ◌≤◌, ◌<◌}
use mathlib.Core.Bool.{Bool, true, false, not, ◌&&◌}
use mathlib.Core.List.{List, [], ◌∷◌}
use mathlib.Core.Logic.{◌⊎◌, inl, inr}
use mathlib.Core.Path.{◌≡◌, refl, ap, sym, ◌∙◌}
use native.Mathlib.Omega.{arith}
use lib.Dec.{ltb, eqb}
use lib.ListN.{length, take}
use borrow.Author.Tests.{ltb-true, ltb-false, eqb-true, le-leb}
use Rattle.std.specs.Prelude.{Option, Some, None}
use Rattle.refusal.specs.Pick.{pick}
use Rattle.refusal.proofs.Tests.{clash}
use Rattle.codeword.specs.declared.Set.{Set}
use Rattle.codeword.specs.declared.Set.TheVariants.{Basic}
use Rattle.codeword.specs.declared.Ascii.{Ascii}
use Rattle.codeword.specs.declared.Ascii.TheVariants.{One, Two, Latch, Pad, Wrong}
use Rattle.codeword.specs.declared.Lone.{Lone}
use Rattle.codeword.specs.declared.Lone.TheVariants.{Ends, Last, Bad}
use Rattle.codeword.specs.Meanings
use Rattle.codeword.specs.Meanings.{ascii, lone, unfinished}
use Rattle.codeword.specs.Reading.{Reading, good, refused, cons, tick, Step, end, behind, give, finish, on_ascii, on_lone, on_pair, Mode, in_ascii, in_c40, read}
use Rattle.codeword.specs.Best.{◌≼◌, none_differs, differs, equals}
use Rattle.optimum.specs.Cost.{asc, d0, digit, cost}
use Rattle.optimum.specs.Write.{odd, fits, next, third, Move, one, two, none, pack, pair, character, last_one, move, run, write}
use Rattle.optimum.proofs.Values.{Chars, Bytes}
use Rattle.optimum.proofs.Codes.{is_one, Digits, is_two, is_latch, is_ends, is_last, Packed, is_three}
use Rattle.optimum.proofs.Accepted.{Front, from_give, from_finish, one_value, two_values, three_values, Twice, from_values, front, twice}
use Rattle.optimum.proofs.Lower.{lower}
use Rattle.optimum.proofs.Forced.{Same, heads, forced, Third, at_most}
use Rattle.optimum.proofs.Attain.{Leads, none_left, go_move}

-- codewords beside the writer's move: they begin smaller, or with the same move
abbrev UnderOne : Bool → ℕ → ℕ → Mode → List ℕ → List ℕ → Type 0
UnderOne b n w m t [] = ⊥
UnderOne b n w m t (v ∷ ws) = (v < w) ⊎ ((v ≡ w) × (read ws m (length t) ≡ good t n b))

abbrev UnderTwo : Bool → ℕ → ℕ → ℕ → Mode → List ℕ → List ℕ → Type 0
UnderTwo b n a w m t [] = ⊥
UnderTwo b n a w m t (v ∷ []) = ⊥
UnderTwo b n a w m t (v ∷ u ∷ ws) = (v < a) ⊎ ((v ≡ a) × ((u < w) ⊎ ((u ≡ w) × (read ws m (length t) ≡ good t n b))))

abbrev Under : Bool → ℕ → Move → List ℕ → Type 0
Under b zero x ws = ⊥
Under b (suc n) (one w m t) ws = UnderOne b n w m t ws
Under b (suc zero) (two a w m t) ws = ⊥
Under b (suc (suc n)) (two a w m t) ws = UnderTwo b n a w m t ws
Under b (suc n) none ws = ⊥

untick : (o : Reading) (t : List ℕ) (n : ℕ) (b : Bool) → tick o ≡ good t (suc n) b → o ≡ good t n b
untick (refused k p) t n b e = clash cc
untick (good t' n' b') t n b e = cc

-- ASCII MODE
module _ (b : Bool) (n : ℕ) (w : ℕ) (ws : List ℕ) where
  under_letter :
      (c : ℕ) (t : List ℕ) → (w ≡ suc c) × (w ≤ 128) → read ws in_ascii (length t) ≡ good t n b →
      Under b (suc n) (character b n (c ∷ t)) (w ∷ ws)
  under_letter c [] h q = inr (h.0, q)
  under_letter c (d ∷ t) h q = go (digit c && digit d && fits b t asc n)
    where
      go :
          (x : Bool) →
          Under b (suc n) (pick x (one (130 + (10 * (c - 48) + (d - 48))) in_ascii t) (one (suc c) in_ascii (d ∷ t))) (w ∷ ws)
      go true = inl (omega (arith, h.1))
      go false = inr (h.0, q)

  -- in front of the text t, where the writer tests for 230 first
  abbrev Goal : Bool → List ℕ → Type 0
  Goal x t = Under b (suc n) (pick x (one 230 (in_c40 Basic) t) (character b n t)) (w ∷ ws)

  under_one : (c : ℕ) (t : List ℕ) → (w ≡ suc c) × (w ≤ 128) → read ws in_ascii (length t) ≡ good t n b → (x : Bool) → Goal x (c ∷ t)
  under_one c t h q true = inl (omega (arith, h.1))
  under_one c t h q false = under_letter c t h q

  under_two : (c d : ℕ) (t : List ℕ) → Digits w c d → read ws in_ascii (length t) ≡ good t n b → (x : Bool) → Goal x (c ∷ d ∷ t)
  under_two c d t D q true = inl (omega (arith, D.low))
  under_two c d t D q false =
      rw (D.one, D.two, le-leb (cost b t asc (odd n)) n (lower ws in_ascii t n b q)) (inr (D.is, q))

  in_ascii_law : (t : List ℕ) → read (w ∷ ws) in_ascii (length t) ≡ good t (suc n) b → Under b (suc n) (move b (suc n) in_ascii t) (w ∷ ws)
  unfolding read move
  in_ascii_law t e = go (ascii w) refl e
    where
      at_one : (c : ℕ) → ascii w ≡ One c → Front c (behind (read ws in_ascii)) t (suc n) b → Goal (fits b t d0 n) t
      at_one c q (front t' p r) =
          rw p (under_one c t' (is_one w c q) (untick (read ws in_ascii (length t')) t' n b r) (fits b (c ∷ t') d0 n))

      at_two₂ :
          (c d : ℕ) (t₁ : List ℕ) → ascii w ≡ Two c d → Front d (behind (read ws in_ascii)) t₁ (suc n) b →
          Goal (fits b (c ∷ t₁) d0 n) (c ∷ t₁)
      at_two₂ c d t₁ q (front t' p r) =
          rw p (under_two c d t' (is_two w c d q) (untick (read ws in_ascii (length t')) t' n b r) (fits b (c ∷ d ∷ t') d0 n))

      at_two : (c d : ℕ) → ascii w ≡ Two c d → Front c (give d (behind (read ws in_ascii))) t (suc n) b → Goal (fits b t d0 n) t
      at_two c d q (front t₁ p r) = rw p (at_two₂ c d t₁ q (from_give d (behind (read ws in_ascii)) t₁ (suc n) b r))

      at_latch : read ws (in_c40 Basic) (length t) ≡ good t n b → w ≡ 230 → Goal (fits b t d0 n) t
      at_latch r q = rw (le-leb (cost b t d0 (odd n)) n (lower ws (in_c40 Basic) t n b r)) (inr (q, r))

      go :
          (x : Ascii) → ascii w ≡ x → on_ascii x (read ws in_ascii) (read ws (in_c40 Basic)) (length t) ≡ good t (suc n) b →
          Goal (fits b t d0 n) t
      go (One c) q p = at_one c q (from_give c (behind (read ws in_ascii)) t (suc n) b p)
      go (Two c d) q p = at_two c d q (from_give c (give d (behind (read ws in_ascii))) t (suc n) b p)
      go Latch q p = at_latch (untick (read ws (in_c40 Basic) (length t)) t n b p) (is_latch w q)
      go Pad q p = clash cc
      go Wrong q p = clash cc

-- C40 MODE

-- the lone last codeword
in_lone :
    (b : Bool) (n : ℕ) (s : Set) (a : ℕ) (t : List ℕ) → on_lone (lone a) (length t) ≡ good t (suc n) b →
    Under b (suc n) (move b (suc n) (in_c40 s) t) (a ∷ [])
unfolding read move
in_lone b n s a t e = go (lone a) refl e
  where
    Goal : Type 0
    Goal = Under b (suc n) (move b (suc n) (in_c40 s) t) (a ∷ [])

    same : (t' : List ℕ) → Under false 1 (last_one t') (a ∷ []) → good t' 1 false ≡ good t (suc n) b → Goal
    same t' h q =
        let p₁ : t ≡ t' = cc in
        let p₂ : suc n ≡ 1 = cc in
        let p₃ : b ≡ false = cc in
        let p₄ : n ≡ 0 = omega arith in
        rw (p₁, p₄, p₃) h

    at_last : (c : ℕ) → lone a ≡ Last c → Front c (end 1 false) t (suc n) b → Goal
    at_last c q (front t' p r) = same (c ∷ []) (inr (is_last a c q, refl)) (ap (cons c) r ∙ ap (λ t. good t (suc n) b) (sym p))

    go : (x : Lone) → lone a ≡ x → on_lone x (length t) ≡ good t (suc n) b → Goal
    go Ends q p = same [] (inr (is_ends a q, refl)) p
    go (Last c) q p = at_last c q (from_give c (end 1 false) t (suc n) b p)
    go Bad q p = clash cc

-- a return to ASCII mode
in_return :
    (b : Bool) (n : ℕ) (s : Set) (w : ℕ) (ws t : List ℕ) → unfinished s ≡ false → read (w ∷ ws) in_ascii (length t) ≡ good t n b →
    Under b (suc n) (move b (suc n) (in_c40 s) t) (254 ∷ w ∷ ws)
unfolding move
in_return true zero s w ws t h e = inr (refl, e)
in_return false zero s w ws t h e = let q = none_left (w ∷ ws) t e in clash cc
in_return b (suc n) s w ws t h e =
    rw (h, le-leb (cost b t asc (odd (suc n))) (suc n) (lower (w ∷ ws) in_ascii t (suc n) b e)) (inr (refl, e))

-- a pair whose last value is not above the writer's
under_pair :
    (b : Bool) (n : ℕ) (a w x y z z' : ℕ) (m : Mode) (t ws : List ℕ) → w < 256 → 256 * a + w ≡ pack x y z → z' < 40 →
    (z < z') ⊎ ((z ≡ z') × (read ws m (length t) ≡ good t n b)) →
    UnderTwo b n (pack x y z' / 256) (pack x y z' % 256) m t (a ∷ w ∷ ws)
under_pair b n a w x y z z' m t ws h e l (inl g) = go (ltb a (pack x y z' / 256)) refl
  where
    go : (i : Bool) → ltb a (pack x y z' / 256) ≡ i → UnderTwo b n (pack x y z' / 256) (pack x y z' % 256) m t (a ∷ w ∷ ws)
    go true q = inl (ltb-true _ _ q)
    go false q = let k : pack x y z' / 256 ≤ a = ltb-false _ _ q in inr (omega arith, inl (omega arith))
under_pair b n a w x y z z' m t ws h e l (inr (g, r)) = inr (omega arith, inr (omega arith, r))

module _ (b : Bool) (n : ℕ) (a w x y z : ℕ) (ws : List ℕ) (byte : w < 256) (R : Packed a w x y z) (s : Set) (t : List ℕ) where
  abbrev K : Set → Step
  K s = read ws (in_c40 s)

  in_three :
      (X : Same (next s t) x (two_values y z K) n b) (Y : Same (next X.s' X.t') y (one_value z K) n b) →
      Third (third b n Y.s' Y.t') z K n b → Under b (suc (suc n)) (pair b n s t) (a ∷ w ∷ ws)
  unfolding pair
  in_three X Y Z =
      rw (X.is, Y.is, Z.is) (under_pair b n a w x y z Z.v' (in_c40 Z.s') Z.t' ws byte R.is Z.low Z.goes)

  in_pair : Chars t → three_values x y z K s (length t) ≡ good t n b → Under b (suc (suc n)) (pair b n s t) (a ∷ w ∷ ws)
  in_pair hs e =
      at_first
      (forced s x R.first (two_values y z K) t n b e hs (λ s' t' i q. heads s' y R.second (one_value z K) t' n b q i))
    where
      at_second :
          (X : Same (next s t) x (two_values y z K) n b) → Same (next X.s' X.t') y (one_value z K) n b →
          Under b (suc (suc n)) (pair b n s t) (a ∷ w ∷ ws)
      at_second X Y =
          in_three X Y
          (at_most b n K Y.s' z R.third (λ s' t' q. lower ws (in_c40 s') t' n b q) Y.t' Y.chars Y.goes)

      at_first : Same (next s t) x (two_values y z K) n b → Under b (suc (suc n)) (pair b n s t) (a ∷ w ∷ ws)
      at_first X =
          at_second X
          (forced X.s' y R.second (one_value z K) X.t' n b X.goes X.chars
          (λ s' t' i q. heads s' z R.third K t' n b q i))

in_values :
    (b : Bool) (n : ℕ) (s : Set) (a w x y z : ℕ) (ws t : List ℕ) → w < 256 → Chars t → Packed a w x y z →
    Twice (three_values x y z (λ s'. read ws (in_c40 s')) s) t (suc n) b → Under b (suc n) (move b (suc n) (in_c40 s) t) (a ∷ w ∷ ws)
unfolding move
in_values b zero s a w x y z ws t byte hs R (twice n' p r) = absurd (omega arith)
in_values b (suc n) s a w x y z ws t byte hs R (twice n' p r) = go (not (unfinished s) && fits b t asc (suc n))
  where
    q : n' ≡ n
    q = omega arith

    go : (i : Bool) → Under b (suc (suc n)) (pick i (one 254 in_ascii t) (pair b n s t)) (a ∷ w ∷ ws)
    go true = inl (omega (arith, R.low))
    go false = in_pair b n a w x y z ws byte R s t hs (r ∙ ap (λ k. good t k b) q)

in_c40_law :
    (b : Bool) (n : ℕ) (s : Set) (ws t : List ℕ) → Bytes ws → Chars t → read ws (in_c40 s) (length t) ≡ good t (suc n) b →
    Under b (suc n) (move b (suc n) (in_c40 s) t) ws
unfolding read
in_c40_law b n s [] t bs hs e = let q = (from_finish s (end 0 false) (length t) t (suc n) b e).1 in clash cc
in_c40_law b n s (a ∷ []) t bs hs e = in_lone b n s a t (from_finish s (on_lone (lone a)) (length t) t (suc n) b e).1
in_c40_law b n s (a ∷ w ∷ ws) t bs hs e = go (eqb a 254) refl e
  where
    Goal : Type 0
    Goal = Under b (suc n) (move b (suc n) (in_c40 s) t) (a ∷ w ∷ ws)

    back : a ≡ 254 → (unfinished s ≡ false) × (tick (read (w ∷ ws) in_ascii (length t)) ≡ good t (suc n) b) → Goal
    back q z = rw q (in_return b n s w ws t z.0 (untick (read (w ∷ ws) in_ascii (length t)) t n b z.1))

    on : (p : Option (ℕ × ℕ × ℕ)) → Meanings.pair a w ≡ p → on_pair p s (λ s'. read ws (in_c40 s')) (length t) ≡ good t (suc n) b → Goal
    on (Some (x, y, z)) q p =
        in_values b n s a w x y z ws t bs.1.0 hs (is_three a w x y z q)
        (from_values s x y z (λ s'. read ws (in_c40 s')) t (suc n) b p)
    on None q p = clash cc

    go :
        (x : Bool) → eqb a 254 ≡ x →
        pick x (finish s (behind (read (w ∷ ws) in_ascii))) (on_pair (Meanings.pair a w) s (λ s'. read ws (in_c40 s'))) (length t)
        ≡ good t (suc n) b → Goal
    go true q p = back (eqb-true a 254 q) (from_finish s (behind (read (w ∷ ws) in_ascii)) (length t) t (suc n) b p)
    go false q p = on (Meanings.pair a w) refl p

compare :
    (b : Bool) (n : ℕ) (m : Mode) (ws t : List ℕ) → Bytes ws → Chars t → read ws m (length t) ≡ good t (suc n) b →
    Under b (suc n) (move b (suc n) m t) ws
unfolding read
compare b n (in_c40 s) ws t bs hs e = in_c40_law b n s ws t bs hs e
compare b n in_ascii [] t bs hs e = clash cc
compare b n in_ascii (w ∷ ws) t bs hs e = in_ascii_law b n w ws t e

-- THE RECURSION
Below : Bool → ℕ → Mode → List ℕ → List ℕ → Type 0
Below b n m t vs = (ws : List ℕ) → Bytes ws → read ws m (length t) ≡ good t n b → take n ws ≼ vs

run_one : (b : Bool) (ws : List ℕ) (x : Move) → Under b 1 x ws → take 1 ws ≼ run x (λ m t. []) (λ m t. [])
run_one b [] (one w m t) h = absurd h
run_one b (v ∷ ws) (one w m t) (inl l) = differs l
run_one b (v ∷ ws) (one w m t) (inr (q, r)) = rw q (equals none_differs)
run_one b ws (two v w m t) h = absurd h
run_one b ws none h = absurd h

run_more :
    (b : Bool) (n : ℕ) (m : Mode) (t ws : List ℕ) (x : Move) (k₁ k₂ : Mode → List ℕ → List ℕ) → Bytes ws → Leads b (suc (suc n)) m t x →
    ((m : Mode) (t : List ℕ) → Chars t → Below b (suc n) m t (k₁ m t)) → ((m : Mode) (t : List ℕ) → Chars t → Below b n m t (k₂ m t)) →
    Under b (suc (suc n)) x ws → take (suc (suc n)) ws ≼ run x k₁ k₂
unfolding Below
run_more b n m t [] (one w m' t') k₁ k₂ bs g i₁ i₂ h = absurd h
run_more b n m t (v ∷ ws) (one w m' t') k₁ k₂ bs g i₁ i₂ (inl l) = differs l
run_more b n m t (v ∷ ws) (one w m' t') k₁ k₂ bs g i₁ i₂ (inr (q, r)) = rw q (equals (i₁ m' t' g.chars ws bs.1 r))
run_more b n m t [] (two a w m' t') k₁ k₂ bs g i₁ i₂ h = absurd h
run_more b n m t (v ∷ []) (two a w m' t') k₁ k₂ bs g i₁ i₂ h = absurd h
run_more b n m t (v ∷ u ∷ ws) (two a w m' t') k₁ k₂ bs g i₁ i₂ (inl l) = differs l
run_more b n m t (v ∷ u ∷ ws) (two a w m' t') k₁ k₂ bs g i₁ i₂ (inr (q, inl l)) = rw q (equals (differs l))
run_more b n m t (v ∷ u ∷ ws) (two a w m' t') k₁ k₂ bs g i₁ i₂ (inr (q, inr (p, r))) =
    rw (q, p) (equals (equals (i₂ m' t' g.chars ws bs.1.1 r)))
run_more b n m t ws none k₁ k₂ bs g i₁ i₂ h = absurd h

pub largest :
    (b : Bool) (n : ℕ) (m : Mode) (t : List ℕ) → n < 2000 → Chars t → (ws : List ℕ) → Bytes ws → read ws m (length t) ≡ good t n b →
    take n ws ≼ write b n m t
unfolding write Below
largest b zero m t l hs ws bs e = none_differs
largest b (suc zero) m t l hs ws bs e = run_one b ws (move b 1 m t) (compare b 0 m ws t bs hs e)
largest b (suc (suc n)) m t l hs ws bs e =
    run_more b n m t ws (move b (suc (suc n)) m t) (write b (suc n)) (write b n) bs
    (go_move b (suc n) m t (omega arith) hs (lower ws m t (suc (suc n)) b e))
    (λ m t hs. largest b (suc n) m t (omega arith) hs) (λ m t hs. largest b n m t (omega arith) hs)
    (compare b (suc n) m ws t bs hs e)
