-- Data and their check words are right, whatever the number of check words. At a root the generator's lower part is the power that it
-- leaves out, so the register's value there is always that of the words taken in, times that power.
-- Assumes nothing.
use Prim.Native.Nat.{◌<◌, suc, zero, ℕ}
use lib.ListN.{length, length-replicate, replicate}
use mathlib.Core.List.{List, [], ◌++◌, ◌∷◌}
use mathlib.Core.Path.{◌∙◌, ◌≡◌, ap, ap₂, refl, sym}
use native.Mathlib.Omega.{arith}
use Rattle.galois.proofs.Powers.{up_zero, up_⊕, up_⊗, up_⊗_r}
use Rattle.galois.proofs.Products.{⊗-dist-r, ⊗-one}
use Rattle.galois.proofs.Sums.{⊕-assoc, ⊕-comm, ⊕-lt, ⊕-self, ⊕-zero-eq}
use Rattle.galois.proofs.Values.{bytes_plus, bytes_scale, bytes_snoc, bytes_zeros, horner_append, horner_snoc, horner_split, length_plus, length_scale, snoc_length, value_cons, value_plus, value_scale}
use Rattle.galois.specs.Field.{◌⊕◌, ◌⊗◌, pow, up}
use Rattle.galois.specs.Polynomial.{Bytes, Right, horner, value_at}
use Rattle.galois.specs.Words.{plus, scale}
use Rattle.check_words.proofs.Roots.{length_coeffs, root}
use Rattle.check_words.specs.Generator.{coeffs}
use Rattle.check_words.specs.Register.{check_words, feed, feeds}

bytes_feed : (g r : List ℕ) (d : ℕ) → Bytes r → Bytes (feed g r d)
unfolding feed
bytes_feed g [] d h = tt
bytes_feed g (r ∷ rs) d h = bytes_plus (rs ++ (0 ∷ [])) (scale (r ⊕ d) g) (bytes_snoc rs h.1) (bytes_scale (r ⊕ d) g)

pub length_feed : (g r : List ℕ) (d : ℕ) → length r ≡ length g → length (feed g r d) ≡ length g
unfolding feed
length_feed g [] d h = h
length_feed g (r ∷ rs) d h =
    length_plus (rs ++ (0 ∷ [])) (scale (r ⊕ d) g) (snoc_length rs 0 ∙ h ∙ sym (length_scale (r ⊕ d) g)) ∙ length_scale (r ⊕ d) g

module _ (x : ℕ) (g : List ℕ) (z : horner x 1 g ≡ 0) where
  -- at a root the generator's lower part is the power that it leaves out
  low_part : value_at x g ≡ up x (length g) 1
  low_part = sym (⊕-zero-eq (up x (length g) 1) (value_at x g) (sym (horner_split x 1 g) ∙ z))

  fed : (r d : ℕ) (rs : List ℕ) → suc (length rs) ≡ length g → r < 256 → d < 256
      → value_at x (plus (rs ++ (0 ∷ [])) (scale (r ⊕ d) g)) ≡ value_at x (r ∷ rs) ⊗ x ⊕ up x (length g) d
  unfolding up
  fed r d rs l hr hd =
      value_plus x (rs ++ (0 ∷ [])) (scale (r ⊕ d) g) (snoc_length rs 0 ∙ l ∙ sym (length_scale (r ⊕ d) g))
      ∙ ap₂ ◌⊕◌ (horner_snoc x 0 rs) (value_scale x (r ⊕ d) g ∙ ap (λ (y : ℕ). (r ⊕ d) ⊗ y) low_part ∙ sym (up_⊗ x (length g) (r ⊕ d) 1)
      ∙ ap (up x (length g)) (⊗-one (r ⊕ d) (⊕-lt r d hr hd)) ∙ up_⊕ x (length g) r d)
      ∙ sym (⊕-assoc (value_at x rs ⊗ x) (up x (length g) r) (up x (length g) d))
      ∙ ap (λ (y : ℕ). y ⊕ up x (length g) d)
      (⊕-comm (value_at x rs ⊗ x) (up x (length g) r)
      ∙ ap (λ (n : ℕ). up x n r ⊕ value_at x rs ⊗ x) (sym l)
      ∙ sym (⊗-dist-r (up x (length rs) r) (value_at x rs) x)
      ∙ ap (λ (y : ℕ). y ⊗ x) (sym (horner_split x r rs) ∙ sym (value_cons x r rs)))

  value_feed : (r : List ℕ) (d : ℕ) → length r ≡ length g → Bytes r → d < 256 → value_at x (feed g r d) ≡ value_at x r ⊗ x ⊕ up x (length g) d
  unfolding feed horner
  value_feed [] d l hr hd = absurd (nowhere g l z)
    where
      nowhere : (g : List ℕ) → 0 ≡ length g → horner x 1 g ≡ 0 → ⊥
      nowhere [] l z = omega arith
      nowhere (y ∷ g) l z = omega arith
  value_feed (r ∷ rs) d l hr hd = fed r d rs l hr.0 hd

  value_feeds : (ds r : List ℕ) (v : ℕ) → length r ≡ length g → Bytes r → Bytes ds → value_at x r ≡ up x (length g) v
      → value_at x (feeds g r ds) ≡ up x (length g) (horner x v ds)
  unfolding feeds horner
  value_feeds [] r v l hr hd e = e
  value_feeds (d ∷ ds) r v l hr hd e =
      value_feeds ds (feed g r d) (v ⊗ x ⊕ d) (length_feed g r d l) (bytes_feed g r d hr) hd.1
      (value_feed r d l hr hd.0 ∙ ap (λ (y : ℕ). y ⊗ x ⊕ up x (length g) d) e
      ∙ ap (λ (y : ℕ). y ⊕ up x (length g) d) (sym (up_⊗_r x (length g) x v)) ∙ sym (up_⊕ x (length g) (v ⊗ x) d))

-- ---- the list of data and check words is right, whatever the number of check words
length_feeds : (g r ds : List ℕ) → length r ≡ length g → length (feeds g r ds) ≡ length g
unfolding feeds
length_feeds g r [] l = l
length_feeds g r (d ∷ ds) l = length_feeds g (feed g r d) ds (length_feed g r d l)

pub zeros_fit : (k : ℕ) → length {A = ℕ} (replicate k 0) ≡ length (coeffs k)
zeros_fit k = length-replicate {A = ℕ} k 0 ∙ sym (length_coeffs k)

pub length_check : (k : ℕ) (ds : List ℕ) → length (check_words k ds) ≡ k
length_check k ds = length_feeds (coeffs k) (replicate k 0) ds (zeros_fit k) ∙ length_coeffs k

value_zeros : (x k : ℕ) → value_at x (replicate k 0) ≡ 0
unfolding horner
value_zeros x zero = refl
value_zeros x (suc k) = value_cons x 0 (replicate k 0) ∙ value_zeros x k

pub check_right : (k : ℕ) (ds : List ℕ) → Bytes ds → Right k (ds ++ check_words k ds)
check_right k ds h j one most =
    let x : ℕ = pow j in
    let c : List ℕ = check_words k ds in
    let v : ℕ = value_at x ds in
    let g : List ℕ = coeffs k in
    horner_append x 0 ds c ∙ horner_split x v c
    ∙ ap₂ ◌⊕◌ (ap (λ (n : ℕ). up x n v) (length_feeds g (replicate k 0) ds (zeros_fit k)))
    (value_feeds x g (root k j one most) ds (replicate k 0) 0 (zeros_fit k) (bytes_zeros k) h (value_zeros x k ∙ sym (up_zero x (length g))))
    ∙ ⊕-self (up x (length g) v)

bytes_feeds : (g r ds : List ℕ) → Bytes r → Bytes (feeds g r ds)
unfolding feeds
bytes_feeds g r [] h = h
bytes_feeds g r (d ∷ ds) h = bytes_feeds g (feed g r d) ds (bytes_feed g r d h)

pub bytes_check : (k : ℕ) (ds : List ℕ) → Bytes (check_words k ds)
bytes_check k ds = bytes_feeds (coeffs k) (replicate k 0) ds (bytes_zeros k)
