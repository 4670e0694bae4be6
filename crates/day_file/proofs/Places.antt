-- Where the record of a number stands, and where its start stands: what the bytes there are.
-- Assumes nothing.
use Prim.Native.Nat.{ℕ, suc, ◌+◌, ◌-◌, ◌*◌, ◌≤◌, ◌<◌}
use mathlib.Core.List.{List, [], ◌∷◌, ◌++◌, append_assoc, append-nil}
use mathlib.Core.Path.{◌≡◌, refl, sym, ap, ◌∙◌}
use native.Mathlib.Omega.{arith}
use native.Mathlib.Nat.{add-zero}
use native.Mathlib.Numerals.{add-one}
use lib.ListN.{length, get_or, set, take, drop, length-append, length-drop}
use lib.Seq.{take_at, drop_at, drop-drop, get_or-drop, take-suc, split_at, set_at}
use Rattle.day_file.specs.File.{Scan, four, record_of, need, body, starts, trailer, bytes_of}
use Rattle.day_file.specs.Opening.{two_at, four_at}
use Rattle.day_file.specs.Plain.{numbered, withdrawn}
use Rattle.day_file.proofs.Bytes.{four_back, two_back}
use Rattle.day_file.proofs.Good.{four_drop, length_starts}

-- lists of scans one behind the other
pub body_append : (xs ys : List Scan) → body (xs ++ ys) ≡ body xs ++ body ys
unfolding body
body_append [] ys = refl
body_append (x ∷ xs) ys = ap (λ l. record_of x ++ l) (body_append xs ys) ∙ sym (append_assoc (record_of x) (body xs) (body ys))

pub starts_append : (at : ℕ) (xs ys : List Scan) → starts at (xs ++ ys) ≡ starts at xs ++ starts (at + length (body xs)) ys
unfolding starts body
starts_append at [] ys = ap (λ n. starts n ys) (sym (add-zero at))
starts_append at (x ∷ xs) ys =
    let n : at + need x + length (body xs) ≡ at + length (record_of x ++ body xs) = omega (arith, length-append (record_of x) (body xs)) in
    ap (λ l. four at ++ l) (starts_append (at + need x) xs ys ∙ ap (λ m. starts (at + need x) xs ++ starts m ys) n)

one_body : (r : Scan) (ys : List Scan) → body (r ∷ ys) ≡ record_of r ++ body ys
unfolding body
one_body r ys = refl

one_start : (at : ℕ) (r : Scan) (ys : List Scan) → starts at (r ∷ ys) ≡ four at ++ starts (at + need r) ys
unfolding starts
one_start at r ys = refl

no_body : body [] ≡ []
unfolding body
no_body = refl

-- what stands at a place where a record begins
module _ (l : List ℕ) (p : ℕ) (r : Scan) (m : List ℕ) (e : drop p l ≡ record_of r ++ m) where
  there : (j : ℕ) → get_or l (p + j) 0 ≡ get_or (record_of r ++ m) j 0
  there j = sym (get_or-drop p l j 0) ∙ ap (λ x. get_or x j 0) e

  pub state_there : get_or l p 0 ≡ r.state
  state_there = ap (λ n. get_or l n 0) (sym (add-zero p)) ∙ there 0

  pub length_there : two_at l (p + 1) ≡ length r.text
  length_there =
      let k : p + 1 + 1 ≡ p + 2 = omega arith in
      omega (arith, there 1, there 2, ap (λ n. get_or l n 0) k, two_back (length r.text) r.state (r.text ++ m))

  pub text_there : take (length r.text) (drop (p + 3) l) ≡ r.text
  text_there = ap (take (length r.text)) (sym (drop-drop 3 p l) ∙ ap (drop 3) e) ∙ take_at r.text m (length r.text) refl

  pub within : p + need r ≤ length l
  within = omega (arith, length-drop p l, ap length e, length-append (record_of r) m, longer)
    where
      longer : p ≤ length l
      longer = go (length-drop p l)
        where
          go : length (drop p l) ≡ length l - p → p ≤ length l
          go d = omega (arith, ap length e, length-append (record_of r) m)

-- the record behind the scans xs, in the body and in the file with anything behind it
module _ (xs : List Scan) (r : Scan) (ys : List Scan) where
  pub in_body : drop (length (body xs)) (body (xs ++ r ∷ ys)) ≡ record_of r ++ body ys
  in_body = ap (drop (length (body xs))) (body_append xs (r ∷ ys)) ∙ drop_at (body xs) (body (r ∷ ys)) (length (body xs)) refl ∙ one_body r ys

  module _ (rest : List ℕ) where
    abbrev file : List ℕ
    file = bytes_of (xs ++ r ∷ ys) ++ rest

    file_is : file ≡ body xs ++ (record_of r ++ (body ys ++ (trailer (xs ++ r ∷ ys) ++ rest)))
    unfolding bytes_of
    file_is =
        ap (λ l. l ++ trailer (xs ++ r ∷ ys) ++ rest) (body_append xs (r ∷ ys) ∙ ap (λ l. body xs ++ l) (one_body r ys))
        ∙ append_assoc (body xs ++ (record_of r ++ body ys)) (trailer (xs ++ r ∷ ys)) rest
        ∙ append_assoc (body xs) (record_of r ++ body ys) (trailer (xs ++ r ∷ ys) ++ rest)
        ∙ ap (λ l. body xs ++ l) (append_assoc (record_of r) (body ys) (trailer (xs ++ r ∷ ys) ++ rest))

    pub in_file : drop (length (body xs)) file ≡ record_of r ++ (body ys ++ (trailer (xs ++ r ∷ ys) ++ rest))
    in_file = ap (drop (length (body xs))) file_is ∙ drop_at (body xs) _ (length (body xs)) refl

    -- its start in the trailer
    pub start_there : four_at file (length (body (xs ++ r ∷ ys)) + 4 * length xs) ≡ length (body xs)
    unfolding bytes_of
    start_there =
        let t : ℕ = length (body (xs ++ r ∷ ys)) in
        let last : List ℕ = four (length (xs ++ r ∷ ys)) ++ four t in
        let tail : List ℕ = starts (length (body xs) + need r) ys ++ last ++ rest in
        let z : 0 + length (body xs) ≡ length (body xs) = omega arith in
        let s : starts 0 (xs ++ r ∷ ys) ≡ starts 0 xs ++ (four (length (body xs)) ++ starts (length (body xs) + need r) ys) =
        starts_append 0 xs (r ∷ ys) ∙ ap (λ n. starts 0 xs ++ starts n (r ∷ ys)) z ∙ ap (λ l. starts 0 xs ++ l) (one_start (length (body xs)) r ys) in
        let f : file ≡ body (xs ++ r ∷ ys) ++ (starts 0 xs ++ (four (length (body xs)) ++ tail)) =
        append_assoc (body (xs ++ r ∷ ys)) (trailer (xs ++ r ∷ ys)) rest
        ∙ ap (λ l. body (xs ++ r ∷ ys) ++ (l ++ last ++ rest)) s
        ∙ ap (λ l. body (xs ++ r ∷ ys) ++ l) (ap (λ l. l ++ rest) (append_assoc (starts 0 xs) (four (length (body xs)) ++ starts (length (body xs) + need r) ys) last) ∙ append_assoc (starts 0 xs) (four (length (body xs)) ++ starts (length (body xs) + need r) ys ++ last) rest) in
        sym (four_drop (t + 4 * length xs) file)
        ∙ ap (λ l. four_at l 0)
        (sym (drop-drop (4 * length xs) t file)
        ∙ ap (λ l. drop (4 * length xs) (drop t l)) f
        ∙ ap (drop (4 * length xs)) (drop_at (body (xs ++ r ∷ ys)) (starts 0 xs ++ (four (length (body xs)) ++ tail)) t refl)
        ∙ drop_at (starts 0 xs) (four (length (body xs)) ++ tail) (4 * length xs) (length_starts 0 xs))
        ∙ four_back (length (body xs)) tail

-- withdrawing changes one byte
same_starts : (at : ℕ) (xs ys : List Scan) (r q : Scan) → need r ≡ need q → starts at (xs ++ r ∷ ys) ≡ starts at (xs ++ q ∷ ys)
unfolding starts
same_starts at [] ys r q e = ap (λ n. four at ++ starts (at + n) ys) e
same_starts at (x ∷ xs) ys r q e = ap (λ l. four at ++ l) (same_starts (at + need x) xs ys r q e)

same_size : (xs ys : List Scan) (r q : Scan) → need r ≡ need q → length (body (xs ++ r ∷ ys)) ≡ length (body (xs ++ q ∷ ys))
same_size xs ys r q e =
    ap length (body_append xs (r ∷ ys) ∙ ap (λ l. body xs ++ l) (one_body r ys))
    ∙ omega (arith, length-append (body xs) (record_of r ++ body ys), length-append (body xs) (record_of q ++ body ys), length-append (record_of r) (body ys), length-append (record_of q) (body ys))
    ∙ sym (ap length (body_append xs (q ∷ ys) ∙ ap (λ l. body xs ++ l) (one_body q ys)))

same_count : (xs ys : List Scan) (r q : Scan) → length (xs ++ r ∷ ys) ≡ length (xs ++ q ∷ ys)
same_count xs ys r q = length-append xs (r ∷ ys) ∙ sym (length-append xs (q ∷ ys))

same_trailer : (xs ys : List Scan) (r q : Scan) → need r ≡ need q → trailer (xs ++ r ∷ ys) ≡ trailer (xs ++ q ∷ ys)
same_trailer xs ys r q e =
    ap (λ l. l ++ (four (length (xs ++ r ∷ ys)) ++ four (length (body (xs ++ r ∷ ys))))) (same_starts 0 xs ys r q e)
    ∙ ap (λ n. starts 0 (xs ++ q ∷ ys) ++ (four n ++ four (length (body (xs ++ r ∷ ys))))) (same_count xs ys r q)
    ∙ ap (λ n. starts 0 (xs ++ q ∷ ys) ++ (four (length (xs ++ q ∷ ys)) ++ four n)) (same_size xs ys r q e)

pub one_byte : (xs ys : List Scan) (r : Scan) (rest : List ℕ) → set (bytes_of (xs ++ r ∷ ys) ++ rest) (length (body xs)) 0 ≡ bytes_of (xs ++ withdrawn r ∷ ys) ++ rest
one_byte xs ys r rest =
    ap (λ l. set l (length (body xs)) 0) (file_is xs r ys rest)
    ∙ set_at (body xs) r.state _ 0 (length (body xs)) refl
    ∙ ap (λ l. body xs ++ (record_of (withdrawn r) ++ (body ys ++ (l ++ rest)))) (same_trailer xs ys r (withdrawn r) refl)
    ∙ sym (file_is xs (withdrawn r) ys rest)

-- one more of a list
module _ (rs : List Scan) (i : ℕ) (h : i < length rs) where
  abbrev r : Scan
  r = numbered rs i

  pub parted : rs ≡ take i rs ++ r ∷ drop (suc i) rs
  parted = split_at rs i (record { state = 0; text = [] }) h

  pub one_more : take (i + 1) rs ≡ take i rs ++ (r ∷ [])
  one_more = ap (λ n. take n rs) (add-one i) ∙ take-suc rs i (record { state = 0; text = [] }) h

  pub starts_more : starts 0 (take (i + 1) rs) ≡ starts 0 (take i rs) ++ four (length (body (take i rs)))
  starts_more =
      let z : 0 + length (body (take i rs)) ≡ length (body (take i rs)) = omega arith in
      ap (starts 0) one_more ∙ starts_append 0 (take i rs) (r ∷ []) ∙ ap (λ n. starts 0 (take i rs) ++ starts n (r ∷ [])) z
      ∙ ap (λ l. starts 0 (take i rs) ++ l) (one_start (length (body (take i rs))) r [] ∙ ap (λ l. four (length (body (take i rs))) ++ l) (no_starts (length (body (take i rs)) + need r)))
    where
      no_starts : (at : ℕ) → starts at [] ≡ []
      no_starts at = length_none (starts at []) (length_starts at [])
        where
          length_none : (l : List ℕ) → length l ≡ 0 → l ≡ []
          length_none [] e = refl
          length_none (x ∷ l) e = absurd (omega arith)

  pub body_more : length (body (take (i + 1) rs)) ≡ length (body (take i rs)) + need r
  body_more =
      ap length (ap body one_more ∙ body_append (take i rs) (r ∷ []) ∙ ap (λ l. body (take i rs) ++ l) (one_body r [] ∙ ap (λ l. record_of r ++ l) no_body))
      ∙ length-append (body (take i rs)) (record_of r ++ []) ∙ ap (λ n. length (body (take i rs)) + n) (ap length (append-nil (record_of r)) ∙ omega arith)
