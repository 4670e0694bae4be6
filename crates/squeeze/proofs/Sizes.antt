-- What a squeezed file holds: its size, its records and their numbers, and what can be added to it. By induction on the list.
-- Assumes nothing.
use Prim.Native.Nat.{ℕ, zero, suc, ◌+◌, ◌-◌, ◌≤◌, ◌<◌}
use mathlib.Core.Bool.{Bool, true, false}
use mathlib.Core.List.{List, [], ◌∷◌, ◌++◌, map, append_assoc}
use mathlib.Core.Path.{◌≡◌, refl, sym, ap, ◌∙◌}
use native.Mathlib.Omega.{arith}
use lib.Dec.{leb}
use lib.ListN.{length, drop, length-append, length-drop, replicate, length-replicate}
use lib.Seq.{drop_at, get_or_at}
use borrow.Author.Tests.{le-leb, eqb-true}
use Rattle.refusal.specs.Pick.{pick}
use Rattle.refusal.specs.Answers.{good, refused, ◌>>◌, check}
use Rattle.refusal.specs.Numbers.{text_too_long, file_full}
use Rattle.refusal.specs.Limits.{limit}
use Rattle.refusal.specs.Over.{over}
use Rattle.refusal.proofs.Binds.{by_and}
use Rattle.day_file.specs.File.{Scan, most_bytes, need, states, bytes_of}
use Rattle.day_file.specs.Opening.{opened}
use Rattle.day_file.specs.Plain.{numbered, live, size, add_plain}
use Rattle.day_file.specs.Promise.{adding}
use Rattle.squeeze.specs.Squeeze.{is_live, live_ones, old_numbers, live_sum, squeezed}
use Rattle.day_file.proofs.Good.{size_plain}
use Rattle.day_file.proofs.Holding.{opens, Holds}

-- THE SIZE AFTERWARDS: the sum over live records of 7 plus the text length, plus 8
pub live_size : (rs : List Scan) → size (live_ones rs) ≡ live_sum rs + 8
unfolding size live_ones live_sum
live_size [] = refl
live_size (r ∷ rs) = go (is_live r) (live_size rs)
  where
    go : (b : Bool) → size (live_ones rs) ≡ live_sum rs + 8 → size (pick b (r ∷ live_ones rs) (live_ones rs)) ≡ pick b (7 + length r.text) 0 + live_sum rs + 8
    go true e = omega arith
    go false e = omega arith

pub squeezed_size : (rs : List Scan) → length (bytes_of (live_ones rs)) ≡ live_sum rs + 8
squeezed_size rs = sym (size_plain (live_ones rs)) ∙ live_size rs

-- it is no larger
live_least : (rs : List Scan) → size (live_ones rs) ≤ size rs
unfolding size live_ones
live_least [] = omega arith
live_least (r ∷ rs) = go (is_live r) (live_least rs)
  where
    go : (b : Bool) → size (live_ones rs) ≤ size rs → size (pick b (r ∷ live_ones rs) (live_ones rs)) ≤ 4 + need r + size rs
    go true e = omega arith
    go false e = omega arith

pub squeezed_least : (rs : List Scan) → length (bytes_of (live_ones rs)) ≤ length (bytes_of rs)
squeezed_least rs = omega (arith, size_plain rs, size_plain (live_ones rs), live_least rs)

pub live_states : (rs : List Scan) → states rs ≡ true → states (live_ones rs) ≡ true
unfolding states live_ones
live_states [] h = refl
live_states (r ∷ rs) h = by_and (leb r.state 1) _ h λ h1 h. go (is_live r) h1 (live_states rs h)
  where
    go : (b : Bool) → leb r.state 1 ≡ true → states (live_ones rs) ≡ true → states (pick b (r ∷ live_ones rs) (live_ones rs)) ≡ true
    go true h1 e = rw h1 e
    go false h1 e = e

-- ITS RECORDS are those at the old numbers, in order; and there are as many numbers as live records
pub old_count : (i : ℕ) (rs : List Scan) → length (old_numbers i rs) ≡ length (live_ones rs)
unfolding old_numbers live_ones
old_count i [] = refl
old_count i (r ∷ rs) = go (is_live r) (old_count (suc i) rs)
  where
    go : (b : Bool) → length (old_numbers (suc i) rs) ≡ length (live_ones rs) → length (pick b (i ∷ old_numbers (suc i) rs) (old_numbers (suc i) rs)) ≡ length (pick b (r ∷ live_ones rs) (live_ones rs))
    go true e = ap suc e
    go false e = e

at_old : (pre rs : List Scan) (i : ℕ) → length pre ≡ i → map (numbered (pre ++ rs)) (old_numbers i rs) ≡ live_ones rs
unfolding old_numbers live_ones
at_old pre [] i h = refl
at_old pre (r ∷ rs) i h =
    let e : pre ++ (r ∷ rs) ≡ (pre ++ (r ∷ [])) ++ rs = sym (append_assoc pre (r ∷ []) rs) in
    let n : length (pre ++ (r ∷ [])) ≡ suc i = length-append pre (r ∷ []) ∙ omega arith in
    let k : map (numbered (pre ++ (r ∷ rs))) (old_numbers (suc i) rs) ≡ live_ones rs = ap (λ l. map (numbered l) (old_numbers (suc i) rs)) e ∙ at_old (pre ++ (r ∷ [])) rs (suc i) n in
    go (is_live r) k (get_or_at pre r rs (record { state = 0; text = [] }) i h)
  where
    go : (b : Bool) → map (numbered (pre ++ (r ∷ rs))) (old_numbers (suc i) rs) ≡ live_ones rs → numbered (pre ++ (r ∷ rs)) i ≡ r
        → map (numbered (pre ++ (r ∷ rs))) (pick b (i ∷ old_numbers (suc i) rs) (old_numbers (suc i) rs)) ≡ pick b (r ∷ live_ones rs) (live_ones rs)
    go true k x = ap (λ a. a ∷ map (numbered (pre ++ (r ∷ rs))) (old_numbers (suc i) rs)) x ∙ ap (λ l. r ∷ l) k
    go false k x = k

pub squeezed_records : (rs : List Scan) → map (numbered rs) (old_numbers 0 rs) ≡ live_ones rs
squeezed_records rs = at_old [] rs 0 refl

-- THE SQUEEZED FILE IS OPENED as the live records
pub squeezed_opens : (s : List ℕ) (len : ℕ) (rs : List Scan) → Holds s len rs → opened (over (squeezed len rs) s) (length (bytes_of (live_ones rs))) ≡ good (live_ones rs)
squeezed_opens s len rs h =
    let f : List ℕ = bytes_of (live_ones rs) in
    let z : List ℕ = replicate (len - length f) 0 in
    let least = squeezed_least rs in
    let n : length (f ++ z) ≡ len = length-append f z ∙ ap (λ k. length f + k) (length-replicate (len - length f) 0) ∙ omega (arith, h.long) in
    let m : length (z ++ drop len s) ≡ length s - length f = length-append z (drop len s) ∙ omega (arith, length-replicate {A = ℕ} (len - length f) 0, length-drop len s, h.long, h.fits, h.room) in
    let e : over (f ++ z) s ≡ over f (f ++ (z ++ drop len s)) =
    ap (λ k. (f ++ z) ++ drop k s) n ∙ append_assoc f z (drop len s) ∙ ap (λ l. f ++ l) (sym (drop_at f (z ++ drop len s) (length f) refl)) in
    ap (λ l. opened l (length f)) e
    ∙ opens (f ++ (z ++ drop len s)) (live_ones rs) (omega (arith, length-append f (z ++ drop len s), h.room, h.long, h.fits)) (live_states rs h.small) (omega (arith, h.long, h.fits))

-- AN ADD REFUSED WITH 36 BEFORE IS ACCEPTED AFTER, whenever the size and the new record's need are within 32,768
pub squeezed_adds : (s : List ℕ) (len : ℕ) (rs : List Scan) (t : List ℕ) → Holds s len rs → add_plain t rs ≡ refused file_full 0 → live_sum rs + 8 + (7 + length t) ≤ most_bytes
    → adding (over (squeezed len rs) s) (length (bytes_of (live_ones rs))) t ≡ good (live_ones rs ++ (live t ∷ []))
unfolding adding
squeezed_adds s len rs t h e k =
    let a : leb (length t) limit ≡ true = not_5 (leb (length t) limit) refl e in
    let b : leb (size (live_ones rs) + (7 + length t)) most_bytes ≡ true = le-leb (size (live_ones rs) + (7 + length t)) most_bytes (omega (arith, live_size rs)) in
    rw (squeezed_opens s len rs h, a, b)
  where
    not_5 : (x : Bool) → leb (length t) limit ≡ x → (check x text_too_long 0 >> (check (leb (size rs + (7 + length t)) most_bytes) file_full 0 >> good (rs ++ (live t ∷ [])))) ≡ refused file_full 0 → leb (length t) limit ≡ true
    not_5 true q e = q
    not_5 false q e = let z : ◌≡◌ {A = ℕ} 5 36 = cc in absurd (omega arith)

-- THE OLD NUMBERS RISE, and every record that is left is live
abbrev pub Rising : (i : ℕ) → List ℕ → Type 0
Rising i [] = Unit {0}
Rising i (n ∷ l) = (i ≤ n) × Rising (suc n) l

sooner : (i : ℕ) (l : List ℕ) → Rising (suc i) l → Rising i l
sooner i [] r = tt
sooner i (n ∷ l) r = (omega (arith, r.0), r.1)

pub old_rising : (i : ℕ) (rs : List Scan) → Rising i (old_numbers i rs)
unfolding old_numbers
old_rising i [] = tt
old_rising i (r ∷ rs) = go (is_live r) (old_rising (suc i) rs)
  where
    go : (b : Bool) → Rising (suc i) (old_numbers (suc i) rs) → Rising i (pick b (i ∷ old_numbers (suc i) rs) (old_numbers (suc i) rs))
    go true h = (omega arith, h)
    go false h = sooner i (old_numbers (suc i) rs) h

pub all_live : (rs : List Scan) (k : ℕ) → k < length (live_ones rs) → (numbered (live_ones rs) k).state ≡ 1
unfolding live_ones
all_live [] k h = absurd (omega arith)
all_live (r ∷ rs) k h = go (is_live r) refl k h (λ j g. all_live rs j g)
  where
    go : (b : Bool) → is_live r ≡ b → (k : ℕ) → k < length (pick b (r ∷ live_ones rs) (live_ones rs)) → ((j : ℕ) → j < length (live_ones rs) → (numbered (live_ones rs) j).state ≡ 1)
        → (numbered (pick b (r ∷ live_ones rs) (live_ones rs)) k).state ≡ 1
    go true e zero h f = eqb-true r.state 1 e
    go true e (suc k) h f = f k (omega arith)
    go false e k h f = f k h
