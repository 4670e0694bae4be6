-- What an answer that is good says of the sizes, and that the list which the code leaves is the one promised.
-- Assumes nothing.
use Prim.Native.Nat.{◌+◌, ◌-◌, ◌<◌, ◌≤◌, suc, ℕ}
use borrow.Author.Tests.{le-leb, leb-true}
use lib.Dec.{leb}
use borrow.Rule.Slice.PartMut.{put_mid}
use lib.Seq.{take-append_seam, drop-append_seam}
use Rattle.std.proofs.lemmas.List.{append_assoc, drop-drop}
use mir.Val.{Fits}
use mir.Syntax.{w8}
use lib.ListN.{drop, get_or, length, length-append}
use mathlib.Core.Bool.{Bool, true, false}
use mathlib.Core.List.{List, [], ◌++◌, ◌∷◌}
use mathlib.Core.Path.{◌∙◌, ◌≡◌, ap, refl, subst, sym}
use native.Mathlib.Omega.{arith}
use Rattle.codeword.specs.Sizes.{is_capacity}
use Rattle.galois.specs.Polynomial.{Bytes}
use Rattle.refusal.proofs.Binds.{never, same_good}
use Rattle.refusal.specs.Answers.{Answer, good}
use Rattle.check_words.proofs.Register.{bytes_check, check_right, length_check}
use Rattle.check_words.proofs.Sizes.{small}
use Rattle.check_words.specs.Answers.{Left, words_of}
use Rattle.check_words.specs.Register.{check_words}
use Rattle.check_words.specs.Sizes.{check_count, most_data}

pub in_room : (n room : ℕ) → is_capacity n ≡ true → n ≤ most_data → n + check_count n ≤ room → words_of n room ≡ good (n + check_count n)
unfolding words_of
in_room n room is h g = rw (is, le-leb n most_data h, le-leb (n + check_count n) room g)

-- m words for n data codewords: these and their check words, 1 to 68 of them; and they have their room
pub fits : (n room m : ℕ) → words_of n room ≡ good m → (m ≡ n + check_count n) × (m ≤ 242) × (m ≤ room) × (n + 1 ≤ m) × (m ≤ n + 68)
unfolding words_of
fits n room m e = go (is_capacity n) refl (leb n most_data) refl (leb (n + check_count n) room) refl
  where
    go : (a : Bool) → is_capacity n ≡ a → (b : Bool) → leb n most_data ≡ b → (c : Bool) → leb (n + check_count n) room ≡ c
        → (m ≡ n + check_count n) × (m ≤ 242) × (m ≤ room) × (n + 1 ≤ m) × (m ≤ n + 68)
    go true p true q true r =
        let g : n + check_count n ≡ m = same_good (simp (p, q, r) at e) in
        let s = small n p (leb-true _ _ q) in
        (sym g, omega (arith, g, s.most), omega (arith, g, leb-true _ _ r), omega (arith, g, s.some), omega (arith, g, s.few))
    go true p true q false r = never (simp (p, q, r) at e)
    go true p false q c r = never (simp (p, q) at e)
    go false p true q c r = never (simp (p, q) at e)
    go false p false q c r = never (simp (p, q) at e)

-- ---- the list
pub bytes_of : (ds : List ℕ) → ((i : ℕ) → get_or ds i 0 < 256) → Bytes ds
bytes_of [] f = tt
bytes_of (d ∷ ds) f = (f 0, bytes_of ds (λ i. f (suc i)))

-- the words written to the front, and behind them others up to the place m
written : (ds cs list : List ℕ) (m : ℕ) → length ds ≤ m → put_mid (length ds) (m - length ds) (ds ++ drop (length ds) list) cs ≡ (ds ++ cs) ++ drop m list
written ds cs list m h =
    let e : length ds + (m - length ds) ≡ m = omega (arith, h) in
    rw (take-append_seam ds (drop (length ds) list), drop-append_seam ds (drop (length ds) list), append_assoc ds cs (drop m list), drop-drop (m - length ds) (length ds) list, e) refl

pub listed : (ds list ds' cs : List ℕ) (m k : ℕ) → ((i : ℕ) → Fits w8 (get_or ds i 0)) → good m ≡ words_of (length ds) (length list) → ds' ≡ ds
    → cs ≡ check_words k ds → k ≡ m - length ds
    → Left (words_of (length ds) (length list)) ds list (put_mid (length ds) (m - length ds) (ds' ++ drop (length ds) list) cs)
listed ds list ds' cs m k by e ed ec ek =
    let f = fits (length ds) (length list) m (sym e) in
    let n : k ≡ check_count (length ds) = omega (arith, ek, f.0) in
    let c : cs ≡ check_words (check_count (length ds)) ds = ec ∙ ap (λ (j : ℕ). check_words j ds) n in
    let long : m ≡ length (ds ++ cs) = omega (arith, f.0, n, length-append ds cs, ap length ec, length_check k ds) in
    subst (λ (a : Answer ℕ). Left a ds list (put_mid (length ds) (m - length ds) (ds' ++ drop (length ds) list) cs)) e
    (record {
      checks = cs;
      number = omega (arith, n, ap length ec, length_check k ds);
      bytes = rw c (bytes_check (check_count (length ds)) ds);
      right = rw c (check_right (check_count (length ds)) ds (bytes_of ds (λ i. (by i).fits)));
      list = rw ed (written ds cs list m (omega (arith, f.0))) ∙ ap (λ (j : ℕ). (ds ++ cs) ++ drop j list) long;
    })
