-- CHECK WORDS ADD UP (document 02, K13), whatever their number: the register takes in the sum of two words as the sum of what it takes in of
-- each. So the list that is printed for the sum of two data lists of one size is the sum of the two lists printed, and patching twice with
-- the same list restores the first.
-- Assumes nothing.
use Prim.Native.Nat.{◌+◌, ◌≤◌, suc, zero, ℕ}
use lib.ListN.{length, length-append, replicate}
use mathlib.Core.Bool.{true}
use mathlib.Core.List.{List, [], ◌++◌, ◌∷◌}
use mathlib.Core.Path.{◌∙◌, ◌≡◌, ap, ap₂, refl, subst, sym}
use native.Mathlib.Omega.{arith}
use Rattle.codeword.specs.Sizes.{is_capacity}
use Rattle.galois.proofs.Products.{⊗-dist-r}
use Rattle.galois.proofs.Sums.{sums, ⊕-self, ⊕-swap}
use Rattle.galois.proofs.Values.{bytes_plus, length_plus, length_scale, snoc_length}
use Rattle.galois.specs.Field.{◌⊕◌}
use Rattle.galois.specs.Polynomial.{Bytes, Right}
use Rattle.galois.specs.Words.{plus, scale}
use Rattle.check_words.proofs.Only.{check_only}
use Rattle.check_words.proofs.Register.{length_check, length_feed, zeros_fit}
use Rattle.check_words.proofs.Sizes.{small}
use Rattle.check_words.specs.Answers.{Listed}
use Rattle.check_words.specs.Generator.{coeffs}
use Rattle.check_words.specs.Register.{check_words, feed, feeds}
use Rattle.check_words.specs.Sizes.{check_count, most_data}

scale_⊕ : (a b : ℕ) (g : List ℕ) → scale (a ⊕ b) g ≡ plus (scale a g) (scale b g)
unfolding scale plus
scale_⊕ a b [] = refl
scale_⊕ a b (w ∷ g) = ap₂ (λ (x : ℕ) (y : List ℕ). x ∷ y) (⊗-dist-r a b w) (scale_⊕ a b g)

plus_snoc : (r s : List ℕ) → length r ≡ length s → plus r s ++ (0 ∷ []) ≡ plus (r ++ (0 ∷ [])) (s ++ (0 ∷ []))
unfolding plus
plus_snoc [] [] l = ap (λ (x : ℕ). x ∷ []) (sym (⊕-self 0))
plus_snoc [] (y ∷ s) l = absurd (omega arith)
plus_snoc (x ∷ r) [] l = absurd (omega arith)
plus_snoc (x ∷ r) (y ∷ s) l = ap (λ (m : List ℕ). (x ⊕ y) ∷ m) (plus_snoc r s (omega arith))

plus_swap : (a b c d : List ℕ) → length a ≡ length b → length b ≡ length c → length c ≡ length d → plus (plus a b) (plus c d) ≡ plus (plus a c) (plus b d)
unfolding plus
plus_swap [] [] [] [] h k l = refl
plus_swap [] [] [] (z ∷ d) h k l = absurd (omega arith)
plus_swap [] [] (y ∷ c) d h k l = absurd (omega arith)
plus_swap [] (x ∷ b) c d h k l = absurd (omega arith)
plus_swap (w ∷ a) [] c d h k l = absurd (omega arith)
plus_swap (w ∷ a) (x ∷ b) [] d h k l = absurd (omega arith)
plus_swap (w ∷ a) (x ∷ b) (y ∷ c) [] h k l = absurd (omega arith)
plus_swap (w ∷ a) (x ∷ b) (y ∷ c) (z ∷ d) h k l = ap₂ (λ (x : ℕ) (y : List ℕ). x ∷ y) (⊕-swap w x y z) (plus_swap a b c d (omega arith) (omega arith) (omega arith))

feed_plus : (g r s : List ℕ) (d e : ℕ) → length r ≡ length g → length s ≡ length g → feed g (plus r s) (d ⊕ e) ≡ plus (feed g r d) (feed g s e)
unfolding feed plus
feed_plus g [] [] d e hr hs = refl
feed_plus g [] (y ∷ s) d e hr hs = absurd (omega arith)
feed_plus g (x ∷ r) [] d e hr hs = absurd (omega arith)
feed_plus g (x ∷ r) (y ∷ s) d e hr hs =
    ap₂ plus (plus_snoc r s (omega arith)) (ap (λ (f : ℕ). scale f g) (⊕-swap x y d e) ∙ scale_⊕ (x ⊕ d) (y ⊕ e) g)
    ∙ plus_swap (r ++ (0 ∷ [])) (s ++ (0 ∷ [])) (scale (x ⊕ d) g) (scale (y ⊕ e) g)
    (omega (arith, snoc_length r 0, snoc_length s 0)) (omega (arith, snoc_length s 0, length_scale (x ⊕ d) g)) (length_scale (x ⊕ d) g ∙ sym (length_scale (y ⊕ e) g))

feeds_plus : (g r s a b : List ℕ) → length r ≡ length g → length s ≡ length g → length a ≡ length b → feeds g (plus r s) (plus a b) ≡ plus (feeds g r a) (feeds g s b)
unfolding feeds plus
feeds_plus g r s [] [] hr hs h = refl
feeds_plus g r s [] (e ∷ b) hr hs h = absurd (omega arith)
feeds_plus g r s (d ∷ a) [] hr hs h = absurd (omega arith)
feeds_plus g r s (d ∷ a) (e ∷ b) hr hs h =
    ap (λ (t : List ℕ). feeds g t (plus a b)) (feed_plus g r s d e hr hs)
    ∙ feeds_plus g (feed g r d) (feed g s e) a b (length_feed g r d hr) (length_feed g s e hs) (omega arith)

zeros_plus : (k : ℕ) → plus (replicate k 0) (replicate k 0) ≡ replicate k 0
unfolding plus
zeros_plus zero = refl
zeros_plus (suc k) = ap₂ (λ (x : ℕ) (y : List ℕ). x ∷ y) (⊕-self 0) (zeros_plus k)

-- the check words of the sum are the sum of the check words
pub check_plus : (k : ℕ) (a b : List ℕ) → length a ≡ length b → check_words k (plus a b) ≡ plus (check_words k a) (check_words k b)
check_plus k a b h =
    ap (λ (r : List ℕ). feeds (coeffs k) r (plus a b)) (sym (zeros_plus k))
    ∙ feeds_plus (coeffs k) (replicate k 0) (replicate k 0) a b (zeros_fit k) (zeros_fit k) h

-- adding the same list twice restores the first; of the check words too
pub plus_twice : (a b : List ℕ) → length a ≡ length b → plus (plus a b) b ≡ a
unfolding plus
plus_twice [] [] h = refl
plus_twice [] (y ∷ b) h = absurd (omega arith)
plus_twice (x ∷ a) [] h = refl
plus_twice (x ∷ a) (y ∷ b) h = ap₂ (λ (x : ℕ) (y : List ℕ). x ∷ y) (simp sums) (plus_twice a b (omega arith))

pub check_twice : (k : ℕ) (a b : List ℕ) → length a ≡ length b → plus (check_words k (plus a b)) (check_words k b) ≡ check_words k a
check_twice k a b h = ap (λ (c : List ℕ). plus c (check_words k b)) (check_plus k a b h) ∙ plus_twice (check_words k a) (check_words k b) (length_check k a ∙ sym (length_check k b))

plus_append : (a b c d : List ℕ) → length a ≡ length b → plus (a ++ c) (b ++ d) ≡ plus a b ++ plus c d
unfolding plus
plus_append [] [] c d h = refl
plus_append [] (y ∷ b) c d h = absurd (omega arith)
plus_append (x ∷ a) [] c d h = absurd (omega arith)
plus_append (x ∷ a) (y ∷ b) c d h = ap (λ (l : List ℕ). (x ⊕ y) ∷ l) (plus_append a b c d (omega arith))

-- ---- of what is printed for the 14 sizes
module _ (a b : List ℕ) (one_size : length a ≡ length b) (size : is_capacity (length a) ≡ true) (single : length a ≤ most_data) (ba : Bytes a) (bb : Bytes b) where
  k : ℕ
  k = check_count (length a)

  few : length a + k ≤ 255
  unfolding k
  few = omega (arith, (small (length a) size single).most)

  same_size : length (plus a b) ≡ length a
  same_size = length_plus a b one_size ∙ sym one_size

  module _ (la la' lb lb' l l' : List ℕ) (pa : Listed (check_count (length a)) a la la') (pb : Listed (check_count (length b)) b lb lb')
      (p : Listed (check_count (length (plus a b))) (plus a b) l l') where
    checks_a : pa.checks ≡ check_words k a
    unfolding k
    checks_a = check_only k a pa.checks few ba pa.bytes pa.number pa.right

    checks_b : pb.checks ≡ check_words k b
    unfolding k
    checks_b =
        let e : check_count (length b) ≡ k = ap check_count (sym one_size) in
        check_only k b pb.checks (omega (arith, few)) bb pb.bytes (pb.number ∙ e) (subst (λ (n : ℕ). Right n (b ++ pb.checks)) e pb.right)

    checks_sum : p.checks ≡ check_words k (plus a b)
    unfolding k
    checks_sum =
        let e : check_count (length (plus a b)) ≡ k = ap check_count same_size in
        check_only k (plus a b) p.checks (omega (arith, few, same_size)) (bytes_plus a b ba bb) p.bytes (p.number ∙ e)
        (subst (λ (n : ℕ). Right n (plus a b ++ p.checks)) e p.right)

    pub printed_plus : plus a b ++ p.checks ≡ plus (a ++ pa.checks) (b ++ pb.checks)
    printed_plus =
        ap (λ (c : List ℕ). plus a b ++ c) (checks_sum ∙ check_plus k a b one_size ∙ sym (ap₂ plus checks_a checks_b))
        ∙ sym (plus_append a b pa.checks pb.checks one_size)

    pub patched_twice : plus (plus (a ++ pa.checks) (b ++ pb.checks)) (b ++ pb.checks) ≡ a ++ pa.checks
    patched_twice =
        let n : length pa.checks ≡ length pb.checks = pa.number ∙ ap check_count one_size ∙ sym pb.number in
        plus_twice (a ++ pa.checks) (b ++ pb.checks) (length-append a pa.checks ∙ ap₂ ◌+◌ one_size n ∙ sym (length-append b pb.checks))
