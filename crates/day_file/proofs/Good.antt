-- A file is good exactly where it is that of a list of scans, each state 0 or 1, of at most 32,768 bytes; and that list is the only one.
-- One way: what the walk finds, written again, is what it went over. The other: each test of the walk is met by the file of a list.
-- Assumes nothing.
use Prim.Native.Nat.{ℕ, ◌+◌, ◌*◌, ◌≤◌}
use mathlib.Core.Bool.{Bool, true, false}
use mathlib.Core.List.{List, [], ◌∷◌, ◌++◌}
use mathlib.Core.Path.{◌≡◌, refl, sym, ap, subst, ◌∙◌}
use native.Mathlib.Omega.{arith}
use native.Mathlib.Nat.{add-zero}
use lib.Dec.{leb, eqb}
use lib.ListN.{length, take, drop, length-append, length-drop, take-append-drop}
use lib.Seq.{length-take-le, drop_at, take_at, drop-drop, get_or-drop, take_all}
use borrow.Author.Tests.{leb-true, eqb-true, le-leb, eq-eqb}
use Rattle.refusal.specs.Answers.{good, refused, ◌>>◌, check}
use Rattle.refusal.specs.Numbers.{bad_file}
use Rattle.refusal.proofs.Binds.{by_check, same_good, never}
use Rattle.day_file.specs.File.{Scan, FileOf, most_bytes, four, need, body, starts, states, trailer, bytes_of}
use Rattle.day_file.specs.Opening.{four_at, count_in, trailer_in, scans, standing, records}
use Rattle.day_file.specs.Plain.{size}
use Rattle.day_file.proofs.Bytes.{Bytes, bytes_drop, bytes_take, four_back, four_is}
use Rattle.day_file.proofs.Standing.{Stands, stands, length_scans, scans_of, standing_of}

pub four_drop : (p : ℕ) (l : List ℕ) → four_at (drop p l) 0 ≡ four_at l p
four_drop p l = simp (get_or-drop, add-zero)

-- the last eight bytes
last_eight : (f : List ℕ) (p : ℕ) → Bytes f → p + 8 ≡ length f → four (four_at f p) ++ four (four_at f (p + 4)) ≡ drop p f
last_eight f p y h =
    let d : length (drop p f) ≡ 8 = length-drop p f ∙ omega arith in
    let a : four (four_at f p) ≡ take 4 (drop p f) = ap four (sym (four_drop p f)) ∙ four_is (drop p f) (omega arith) (bytes_drop p f y) in
    let e : length (drop (p + 4) f) ≡ 4 = length-drop (p + 4) f ∙ omega arith in
    let b : four (four_at f (p + 4)) ≡ drop 4 (drop p f) =
    ap four (sym (four_drop (p + 4) f)) ∙ four_is (drop (p + 4) f) (omega arith) (bytes_drop (p + 4) f y)
    ∙ take_all 4 (drop (p + 4) f) (omega arith) ∙ sym (drop-drop 4 p f) in
    ap (λ m. m ++ four (four_at f (p + 4))) a ∙ ap (λ m. take 4 (drop p f) ++ m) b ∙ take-append-drop 4 (drop p f)

-- a file that is accepted, and its two last numbers
pub record Accepted (f : List ℕ) (rs : List Scan) : Type 0 where
  pub file : FileOf f rs
  pub count : length rs ≡ count_in f
  pub trails : length (body rs) ≡ trailer_in f

module _ (f : List ℕ) (y : Bytes f) where
  pub accepted : (rs : List Scan) → records f ≡ good rs → Accepted f rs
  unfolding records bytes_of
  accepted rs e =
      by_check (leb (length f) most_bytes) bad_file 0 _ e λ e1 e.
      by_check (leb 8 (length f)) bad_file 0 _ e λ e2 e.
      by_check (eqb (trailer_in f + 4 * count_in f + 8) (length f)) bad_file 0 _ e λ e3 e.
      by_check (standing (count_in f) 0 (take (trailer_in f) f) (drop (trailer_in f) f)) bad_file 0 _ e λ e4 e.
      let h : trailer_in f + 4 * count_in f + 8 ≡ length f = eqb-true (trailer_in f + 4 * count_in f + 8) (length f) e3 in
      subst (Accepted f) (same_good e) (made h (stands (count_in f) 0 (take (trailer_in f) f) (drop (trailer_in f) f) (bytes_take (trailer_in f) f y) (bytes_drop (trailer_in f) f y) (simp length-drop (omega arith)) e4) (leb-true (length f) most_bytes e1))
    where
      made : trailer_in f + 4 * count_in f + 8 ≡ length f → Stands (count_in f) 0 (take (trailer_in f) f) (drop (trailer_in f) f) → length f ≤ most_bytes → Accepted f (scans (count_in f) (take (trailer_in f) f))
      made h s m =
          let rs : List Scan = scans (count_in f) (take (trailer_in f) f) in
          let k : length rs ≡ count_in f = length_scans (count_in f) (take (trailer_in f) f) in
          let t : length (body rs) ≡ trailer_in f = ap length s.bodies ∙ length-take-le (trailer_in f) f (omega arith) in
          let p : ℕ = trailer_in f + 4 * count_in f in
          let q : four (count_in f) ++ four (trailer_in f) ≡ drop (4 * count_in f) (drop (trailer_in f) f) =
          ap (λ (n : ℕ). four (four_at f n) ++ four (trailer_in f)) (omega arith)
          ∙ ap (λ (n : ℕ). four (four_at f p) ++ four (four_at f n)) (omega arith)
          ∙ last_eight f p y h ∙ sym (drop-drop (4 * count_in f) (trailer_in f) f) in
          record {
            file = record {
              whole =
                  ap (λ l. l ++ (starts 0 rs ++ (four (length rs) ++ four (length (body rs))))) s.bodies
                  ∙ ap (λ l. take (trailer_in f) f ++ (l ++ (four (length rs) ++ four (length (body rs))))) (sym s.begins)
                  ∙ ap (λ (n : ℕ). take (trailer_in f) f ++ (take (4 * count_in f) (drop (trailer_in f) f) ++ (four n ++ four (length (body rs))))) k
                  ∙ ap (λ (n : ℕ). take (trailer_in f) f ++ (take (4 * count_in f) (drop (trailer_in f) f) ++ (four (count_in f) ++ four n))) t
                  ∙ ap (λ l. take (trailer_in f) f ++ (take (4 * count_in f) (drop (trailer_in f) f) ++ l)) q
                  ∙ ap (λ l. take (trailer_in f) f ++ l) (take-append-drop (4 * count_in f) (drop (trailer_in f) f))
                  ∙ take-append-drop (trailer_in f) f;
              small = s.small;
              fits = m;
            };
            count = k;
            trails = t;
          }

-- the other way round
pub length_starts : (at : ℕ) (rs : List Scan) → length (starts at rs) ≡ 4 * length rs
unfolding starts
length_starts at [] = refl
length_starts at (r ∷ rs) = omega (arith, length_starts (at + need r) rs)

pub length_body : (r : Scan) (rs : List Scan) → length (body (r ∷ rs)) ≡ need r + length (body rs)
unfolding body
length_body r rs = simp length-append (omega arith)

pub size_is : (rs : List Scan) → length (bytes_of rs) ≡ length (body rs) + 4 * length rs + 8
unfolding bytes_of
size_is rs = simp (length-append, length_starts 0 rs) (omega arith)

sums : (rs : List Scan) → size rs ≡ length (body rs) + 4 * length rs + 8
unfolding size body
sums [] = refl
sums (r ∷ rs) = omega (arith, sums rs, length_body r rs)

pub size_plain : (rs : List Scan) → size rs ≡ length (bytes_of rs)
size_plain rs = sums rs ∙ sym (size_is rs)

module _ (rs : List Scan) where
  behind : (n : ℕ) (l : List ℕ) → drop n (trailer rs) ≡ l → drop (length (body rs) + n) (bytes_of rs) ≡ l
  unfolding bytes_of
  behind n l e = sym (drop-drop n (length (body rs)) (body rs ++ trailer rs)) ∙ ap (drop n) (drop_at (body rs) (trailer rs) (length (body rs)) refl) ∙ e

  pub count_of : four_at (bytes_of rs) (length (body rs) + 4 * length rs) ≡ length rs
  count_of =
      sym (four_drop (length (body rs) + 4 * length rs) (bytes_of rs))
      ∙ ap (λ l. four_at l 0) (behind (4 * length rs) _ (drop_at (starts 0 rs) (four (length rs) ++ four (length (body rs))) (4 * length rs) (length_starts 0 rs)))
      ∙ four_back (length rs) (four (length (body rs)))

  pub trails_of : four_at (bytes_of rs) (length (body rs) + 4 * length rs + 4) ≡ length (body rs)
  trails_of =
      sym (four_drop (length (body rs) + 4 * length rs + 4) (bytes_of rs))
      ∙ ap (λ l. four_at l 0) (sym (drop-drop 4 (length (body rs) + 4 * length rs) (bytes_of rs)) ∙ ap (drop 4) (behind (4 * length rs) _ (drop_at (starts 0 rs) (four (length rs) ++ four (length (body rs))) (4 * length rs) (length_starts 0 rs))))
      ∙ four_back (length (body rs)) []

  count_in_of : count_in (bytes_of rs) ≡ length rs
  count_in_of = ap (λ (n : ℕ). four_at (bytes_of rs) n) (omega (arith, size_is rs)) ∙ count_of

  trailer_in_of : trailer_in (bytes_of rs) ≡ length (body rs)
  trailer_in_of = ap (λ (n : ℕ). four_at (bytes_of rs) n) (omega (arith, size_is rs)) ∙ trails_of

  body_of : take (length (body rs)) (bytes_of rs) ≡ body rs
  unfolding bytes_of
  body_of = take_at (body rs) (trailer rs) (length (body rs)) refl

  trailer_of : drop (length (body rs)) (bytes_of rs) ≡ trailer rs
  unfolding bytes_of
  trailer_of = drop_at (body rs) (trailer rs) (length (body rs)) refl

  -- the records of the file of a list are that list
  pub accepts : states rs ≡ true → length (bytes_of rs) ≤ most_bytes → records (bytes_of rs) ≡ good rs
  unfolding records
  accepts h m =
      let f : List ℕ = bytes_of rs in
      let c1 : leb (length f) most_bytes ≡ true = le-leb _ _ m in
      let c2 : leb 8 (length f) ≡ true = le-leb 8 (length f) (omega (arith, size_is rs)) in
      let c3 : eqb (trailer_in f + 4 * count_in f + 8) (length f) ≡ true = eq-eqb (trailer_in f + 4 * count_in f + 8) (length f) (omega (arith, size_is rs, count_in_of, trailer_in_of)) in
      let c4 : standing (count_in f) 0 (take (trailer_in f) f) (drop (trailer_in f) f) ≡ true =
      ap (λ n. standing n 0 (take (trailer_in f) f) (drop (trailer_in f) f)) count_in_of
      ∙ ap (λ n. standing (length rs) 0 (take n f) (drop n f)) trailer_in_of
      ∙ ap (λ l. standing (length rs) 0 l (drop (length (body rs)) f)) body_of
      ∙ ap (λ l. standing (length rs) 0 (body rs) l) trailer_of
      ∙ standing_of rs 0 (four (length rs) ++ four (length (body rs))) h in
      let c5 : scans (count_in f) (take (trailer_in f) f) ≡ rs =
      ap (λ n. scans n (take (trailer_in f) f)) count_in_of ∙ ap (λ n. scans (length rs) (take n f)) trailer_in_of ∙ ap (scans (length rs)) body_of ∙ scans_of rs in
      rw (c1, c2, c3, c4, c5)

-- A FILE IS GOOD EXACTLY where it is that of a list
pub good_exactly : (f : List ℕ) → Bytes f → (rs : List Scan) → (records f ≡ good rs → FileOf f rs) × (FileOf f rs → records f ≡ good rs)
good_exactly f y rs = (λ e. (accepted f y rs e).file, λ w. ap records (sym w.whole) ∙ accepts rs w.small (subst (λ l. length l ≤ most_bytes) (sym w.whole) w.fits))

-- AND 35 EXACTLY where it is that of none
pub bad_exactly : (f : List ℕ) → Bytes f → (records f ≡ refused bad_file 0 → (rs : List Scan) → FileOf f rs → ⊥) × (((rs : List Scan) → FileOf f rs → ⊥) → records f ≡ refused bad_file 0)
unfolding records
bad_exactly f y = (λ e rs w. never (sym e ∙ (good_exactly f y rs).1 w), λ n. go (leb (length f) most_bytes) (leb 8 (length f)) (eqb (trailer_in f + 4 * count_in f + 8) (length f)) (standing (count_in f) 0 (take (trailer_in f) f) (drop (trailer_in f) f)) (scans (count_in f) (take (trailer_in f) f)) λ rs e. n rs ((good_exactly f y rs).0 e))
  where
    go : (a b c d : Bool) (rs : List Scan)
        → ((qs : List Scan) → (check a bad_file 0 >> (check b bad_file 0 >> (check c bad_file 0 >> (check d bad_file 0 >> good rs)))) ≡ good qs → ⊥)
        → (check a bad_file 0 >> (check b bad_file 0 >> (check c bad_file 0 >> (check d bad_file 0 >> good rs)))) ≡ refused bad_file 0
    go true true true true rs n = absurd (n rs refl)
    go true true true false rs n = refl
    go true true false d rs n = refl
    go true false c d rs n = refl
    go false b c d rs n = refl

-- TWO LISTS HAVE THE SAME FILE only where they are the same
pub one_list : (rs qs : List Scan) → states rs ≡ true → states qs ≡ true → length (bytes_of rs) ≤ most_bytes → bytes_of rs ≡ bytes_of qs → rs ≡ qs
one_list rs qs h k m e = same_good (sym (accepts rs h m) ∙ ap records e ∙ accepts qs k (subst (λ l. length l ≤ most_bytes) e m))
