-- What a squeezed file answers: by its new number a text is fetched as it was by its old one, squeezing again changes nothing, and an add that
-- was refused with 36 is accepted exactly where the live records leave room. All from the list that the squeezed file is opened as.
-- Assumes nothing.
use Prim.Native.Nat.{ℕ, zero, suc, ◌+◌, ◌-◌, ◌≤◌, ◌<◌}
use mathlib.Core.Bool.{Bool, true, false, ◌&&◌}
use mathlib.Core.List.{List, [], ◌∷◌, ◌++◌, map, append_assoc, append-nil}
use mathlib.Core.Path.{◌≡◌, refl, sym, ap, ◌∙◌}
use native.Mathlib.Omega.{arith}
use lib.Dec.{leb, eqb}
use lib.ListN.{length, get_or, drop, replicate}
use lib.Seq.{drop_at}
use borrow.Author.Tests.{lt-ltb, leb-true}
use Rattle.refusal.specs.Pick.{pick}
use Rattle.refusal.specs.Answers.{Answer, good, refused, ◌>>=◌, ◌>>◌, check}
use Rattle.refusal.specs.Numbers.{lent_too_short, text_too_long, file_full, no_scan}
use Rattle.refusal.specs.Limits.{limit}
use Rattle.refusal.specs.Over.{over}
use Rattle.refusal.proofs.Binds.{by_check}
use Rattle.day_file.specs.File.{Scan, most_bytes, bytes_of}
use Rattle.day_file.specs.Opening.{opened}
use Rattle.day_file.specs.Plain.{numbered, live, size, add_plain, fetch_plain}
use Rattle.day_file.specs.Promise.{adding, fetching}
use Rattle.day_file.proofs.Holding.{Holds, opens}
use Rattle.squeeze.specs.Squeeze.{is_live, live_ones, old_numbers, up_from, live_sum, squeezing, squeezed, squeezed_slice}
use Rattle.squeeze.proofs.Sizes.{live_size, squeezed_records, squeezed_opens, squeezed_adds, old_count}

-- a slice that holds a file is opened as its list
pub held_opens : (s : List ℕ) (len : ℕ) (rs : List Scan) → Holds s len rs → opened s len ≡ good rs
held_opens s len rs h =
    ap (λ l. opened l len) (sym h.whole) ∙ ap (opened (over (bytes_of rs) s)) (sym h.long)
    ∙ opens s rs h.room h.small (omega (arith, h.long, h.fits))

-- an old number is the number of a record
old_below : (i : ℕ) (rs : List Scan) (j : ℕ) → j < length (old_numbers i rs) → get_or (old_numbers i rs) j 0 < i + length rs
unfolding old_numbers
old_below i [] j h = absurd (omega arith)
old_below i (r ∷ rs) j h = go (is_live r) j h (λ k g. old_below (suc i) rs k g)
  where
    go : (b : Bool) → (j : ℕ) → j < length (pick b (i ∷ old_numbers (suc i) rs) (old_numbers (suc i) rs))
        → ((k : ℕ) → k < length (old_numbers (suc i) rs) → get_or (old_numbers (suc i) rs) k 0 < suc i + length rs)
        → get_or (pick b (i ∷ old_numbers (suc i) rs) (old_numbers (suc i) rs)) j 0 < i + suc (length rs)
    go true zero h f = omega arith
    go true (suc j) h f = omega (arith, f j (omega arith))
    go false j h f = omega (arith, f j h)

get_d_map : (f : ℕ → Scan) (l : List ℕ) (j : ℕ) (d : Scan) → j < length l → get_or (map f l) j d ≡ f (get_or l j 0)
get_d_map f [] j d h = absurd (omega arith)
get_d_map f (n ∷ l) zero d h = refl
get_d_map f (n ∷ l) (suc j) d h = get_d_map f l j d (omega arith)

-- the scan of a new number is that of the old one
pub same_scan : (rs : List Scan) (j : ℕ) → j < length (live_ones rs) → numbered (live_ones rs) j ≡ numbered rs (get_or (old_numbers 0 rs) j 0)
same_scan rs j h =
    ap (λ l. numbered l j) (sym (squeezed_records rs))
    ∙ get_d_map (numbered rs) (old_numbers 0 rs) j (record { state = 0; text = [] }) (omega (arith, old_count 0 rs))

abbrev fetched_from : Bool → Scan → Answer (List ℕ)
fetched_from b r = (check b no_scan 0 >> (check (eqb r.state 1) no_scan 0 >> good r)) >>= λ r. check (leb (length r.text) limit) text_too_long 0 >> good r.text

same_fetch : (rs : List Scan) (j : ℕ) → j < length (live_ones rs) → fetch_plain j (live_ones rs) ≡ fetch_plain (get_or (old_numbers 0 rs) j 0) rs
same_fetch rs j h =
    let k : ℕ = get_or (old_numbers 0 rs) j 0 in
    let below : k < length rs = omega (arith, old_below 0 rs j (omega (arith, old_count 0 rs))) in
    ap (λ b. fetched_from b (numbered (live_ones rs) j)) (lt-ltb j (length (live_ones rs)) h)
    ∙ ap (fetched_from true) (same_scan rs j h)
    ∙ sym (ap (λ b. fetched_from b (numbered rs k)) (lt-ltb k (length rs) below))

-- squeezing the live records again
pub live_twice : (rs : List Scan) → live_ones (live_ones rs) ≡ live_ones rs
unfolding live_ones
live_twice [] = refl
live_twice (r ∷ rs) = go (is_live r) refl (live_twice rs)
  where
    go : (b : Bool) → is_live r ≡ b → live_ones (live_ones rs) ≡ live_ones rs → live_ones (pick b (r ∷ live_ones rs) (live_ones rs)) ≡ pick b (r ∷ live_ones rs) (live_ones rs)
    go true q e = ap (λ b. pick b (r ∷ live_ones (live_ones rs)) (live_ones (live_ones rs))) q ∙ ap (λ l. r ∷ l) e
    go false q e = e

pub numbers_twice : (i : ℕ) (rs : List Scan) → old_numbers i (live_ones rs) ≡ up_from i (length (live_ones rs))
unfolding old_numbers live_ones up_from
numbers_twice i [] = refl
numbers_twice i (r ∷ rs) = go (is_live r) refl (λ j. numbers_twice j rs)
  where
    go : (b : Bool) → is_live r ≡ b → ((j : ℕ) → old_numbers j (live_ones rs) ≡ up_from j (length (live_ones rs)))
        → old_numbers i (pick b (r ∷ live_ones rs) (live_ones rs)) ≡ up_from i (length (pick b (r ∷ live_ones rs) (live_ones rs)))
    go true q e = ap (λ b. pick b (i ∷ old_numbers (suc i) (live_ones rs)) (old_numbers (suc i) (live_ones rs))) q ∙ ap (λ l. i ∷ l) (e (suc i))
    go false q e = e i

module _ (s : List ℕ) (len : ℕ) (rs : List Scan) (h : Holds s len rs) where
  abbrev after : List ℕ
  after = over (squeezed len rs) s

  abbrev shorter : ℕ
  shorter = length (bytes_of (live_ones rs))

  -- BY ITS NEW NUMBER a text is fetched as it was by its old one
  pub fetched_same : (j : ℕ) → j < length (live_ones rs) → fetching after shorter j ≡ fetching s len (get_or (old_numbers 0 rs) j 0)
  unfolding fetching
  fetched_same j g =
      ap (λ o. o >>= fetch_plain j) (squeezed_opens s len rs h) ∙ same_fetch rs j g
      ∙ sym (ap (λ o. o >>= fetch_plain (get_or (old_numbers 0 rs) j 0)) (held_opens s len rs h))

  -- the squeezed file, squeezed, is what it was
  stays : over (squeezed shorter (live_ones rs)) after ≡ after
  stays =
      let f : List ℕ = bytes_of (live_ones rs) in
      let w : List ℕ = replicate (len - length f) 0 ++ drop (length (squeezed len rs)) s in
      let none : length f - length f ≡ 0 = omega arith in
      let a : squeezed shorter (live_ones rs) ≡ f =
      ap (λ l. bytes_of l ++ replicate (shorter - length (bytes_of l)) 0) (live_twice rs)
      ∙ ap (λ n. f ++ replicate n 0) none ∙ append-nil f in
      let b : after ≡ f ++ w = append_assoc f (replicate (len - length f) 0) (drop (length (squeezed len rs)) s) in
      ap (λ l. over l after) a ∙ ap (over f) b ∙ ap (λ l. f ++ l) (drop_at f w (length f) refl) ∙ sym b

  -- SQUEEZING TWICE IS SQUEEZING ONCE, whatever the lists
  pub twice : (olds news : ℕ) → squeezed_slice shorter (squeezing after shorter olds news) after ≡ after
  unfolding squeezing
  twice olds news =
      ap (λ o. squeezed_slice shorter (o >>= asked) after) (squeezed_opens s len rs h)
      ∙ go (leb (length (live_ones (live_ones rs))) olds && leb (length (live_ones (live_ones rs))) news)
    where
      asked : List Scan → Answer (List Scan)
      asked qs = check (leb (length (live_ones qs)) olds && leb (length (live_ones qs)) news) lent_too_short 0 >> good qs

      go : (b : Bool) → squeezed_slice shorter (check b lent_too_short 0 >> good (live_ones rs)) after ≡ after
      go true = stays
      go false = refl

  -- AN ADD REFUSED WITH 36 IS ACCEPTED AFTERWARDS EXACTLY where the size and the new record's need are within 32,768
  pub add_exactly : (t : List ℕ) → adding s len t ≡ refused file_full 0
      → (live_sum rs + 8 + (7 + length t) ≤ most_bytes → adding after shorter t ≡ good (live_ones rs ++ (live t ∷ [])))
      × ((qs : List Scan) → adding after shorter t ≡ good qs → live_sum rs + 8 + (7 + length t) ≤ most_bytes)
  unfolding adding
  add_exactly t e = (
    squeezed_adds s len rs t h (sym (ap (λ o. o >>= add_plain t) (held_opens s len rs h)) ∙ e),
    λ qs q.
        by_check (leb (length t) limit) text_too_long 0 _ (sym (ap (λ o. o >>= add_plain t) (squeezed_opens s len rs h)) ∙ q) λ e₁ q.
        by_check (leb (size (live_ones rs) + (7 + length t)) most_bytes) file_full 0 _ q λ e₂ q.
        omega (arith, leb-true (size (live_ones rs) + (7 + length t)) most_bytes e₂, live_size rs),
  )
