-- Any sequence of adding, withdrawing and fetching answers on a file as on the plain list. By induction on the sequence.
-- Assumes nothing.
use Prim.Native.Nat.{ℕ, zero, suc, ◌+◌, ◌-◌, ◌≤◌}
use mathlib.Core.Bool.{true}
use mathlib.Core.List.{List, [], ◌∷◌, ◌++◌}
use mathlib.Core.Path.{◌≡◌, refl, sym, ap, subst, ◌∙◌}
use native.Mathlib.Omega.{arith}
use lib.Dec.{leb, ltb, eqb}
use lib.ListN.{length, set, drop, replicate}
use lib.Seq.{drop_at, drop-drop}
use borrow.Author.Tests.{leb-true}
use Rattle.refusal.specs.Answers.{Answer, good, refused}
use Rattle.refusal.specs.Numbers.{text_too_long, file_full, no_scan}
use Rattle.refusal.specs.Limits.{limit}
use Rattle.refusal.specs.Over.{over}
use Rattle.refusal.proofs.Binds.{by_check, by_bind, by_and, same_good}
use Rattle.day_file.specs.File.{Scan, most_bytes, need, body, starts, states, bytes_of}
use Rattle.day_file.specs.Opening.{opened}
use Rattle.day_file.specs.Plain.{numbered, live, withdrawn, size, add_plain, found, withdraw_plain, fetch_plain}
use Rattle.day_file.specs.Promise.{adding, withdrawing, fetching, slice_after}
use Rattle.day_file.specs.Runs.{Op, add, withdraw, fetch, added, withdrew, fetched, last_number, done, list_after, run_plain, length_after, run_file}
use Rattle.day_file.proofs.Good.{size_plain}
use Rattle.day_file.proofs.Holding.{opens}

-- "an empty file is the 8 zero bytes of its trailer"
pub empty_file : bytes_of [] ≡ replicate 8 0
unfolding bytes_of body starts
empty_file = refl

-- a list whose file fits
pub record Fitting (rs : List Scan) : Type 0 where
  pub small : states rs ≡ true
  pub fits : size rs ≤ most_bytes

pub fitting_none : Fitting []
unfolding states size
fitting_none = record { small = refl; fits = omega arith }

-- what the list becomes fits again
states_add : (rs : List Scan) (t : List ℕ) → states rs ≡ true → states (rs ++ (live t ∷ [])) ≡ true
unfolding states
states_add [] t h = refl
states_add (r ∷ rs) t h = by_and (leb r.state 1) _ h λ h1 h. rw h1 (states_add rs t h)

pub size_add : (rs : List Scan) (t : List ℕ) → size (rs ++ (live t ∷ [])) ≡ size rs + (7 + length t)
unfolding size
size_add [] t = omega arith
size_add (r ∷ rs) t = omega (arith, size_add rs t)

pub states_set : (rs : List Scan) (k : ℕ) → states rs ≡ true → states (set rs k (withdrawn (numbered rs k))) ≡ true
unfolding states
states_set [] k h = refl
states_set (r ∷ rs) zero h = by_and (leb r.state 1) _ h λ h1 h. h
states_set (r ∷ rs) (suc k) h = by_and (leb r.state 1) _ h λ h1 h. rw h1 (states_set rs k h)

pub size_set : (rs : List Scan) (k : ℕ) → size (set rs k (withdrawn (numbered rs k))) ≡ size rs
unfolding size
size_set [] k = refl
size_set (r ∷ rs) zero = refl
size_set (r ∷ rs) (suc k) = ap (λ n. 4 + need r + n) (size_set rs k)

fitting_add : (t : List ℕ) (rs qs : List Scan) → Fitting rs → add_plain t rs ≡ good qs → Fitting qs
fitting_add t rs qs f e =
    by_check (leb (length t) limit) text_too_long 0 _ e λ e1 e.
    by_check (leb (size rs + (7 + length t)) most_bytes) file_full 0 _ e λ e2 e.
    subst Fitting (same_good e) (record { small = states_add rs t f.small; fits = omega (arith, leb-true (size rs + (7 + length t)) most_bytes e2, size_add rs t) })

fitting_withdraw : (k : ℕ) (rs qs : List Scan) → Fitting rs → withdraw_plain k rs ≡ good qs → Fitting qs
fitting_withdraw k rs qs f e =
    by_bind (found k rs) _ e λ r e1 e.
    by_check (ltb k (length rs)) no_scan 0 _ e1 λ t1 e1.
    by_check (eqb (numbered rs k).state 1) no_scan 0 _ e1 λ t2 e1.
    subst Fitting (ap (λ x. set rs k (withdrawn x)) (same_good e1) ∙ same_good e) (record { small = states_set rs k f.small; fits = omega (arith, f.fits, size_set rs k) })

grows : (t : List ℕ) (rs qs : List Scan) → add_plain t rs ≡ good qs → size rs ≤ size qs
grows t rs qs e =
    by_check (leb (length t) limit) text_too_long 0 _ e λ e1 e.
    by_check (leb (size rs + (7 + length t)) most_bytes) file_full 0 _ e λ e2 e.
    subst (λ l. size rs ≤ size l) (same_good e) (omega (arith, size_add rs t))

keeps : (k : ℕ) (rs qs : List Scan) → withdraw_plain k rs ≡ good qs → size rs ≤ size qs
keeps k rs qs e =
    by_bind (found k rs) _ e λ r e1 e.
    by_check (ltb k (length rs)) no_scan 0 _ e1 λ t1 e1.
    by_check (eqb (numbered rs k).state 1) no_scan 0 _ e1 λ t2 e1.
    subst (λ l. size rs ≤ size l) (ap (λ x. set rs k (withdrawn x)) (same_good e1) ∙ same_good e) (omega (arith, size_set rs k))

pub fitting_after : (x : Answer (List Scan)) (rs : List Scan) → Fitting rs → ((qs : List Scan) → x ≡ good qs → Fitting qs) → Fitting (list_after x rs)
fitting_after (good qs) rs f g = g qs refl
fitting_after (refused k p) rs f g = f

-- the file of one list written over that of a list with no larger file, or a refusal
over_over : (a b s : List ℕ) → length a ≤ length b → length b ≤ length s → over b (over a s) ≡ over b s
over_over a b s h k =
    let n : length b ≡ length a + (length b - length a) = omega arith in
    ap (λ l. b ++ l)
    (ap (λ m. drop m (a ++ drop (length a) s)) n
    ∙ sym (drop-drop (length b - length a) (length a) (a ++ drop (length a) s))
    ∙ ap (drop (length b - length a)) (drop_at a (drop (length a) s) (length a) refl)
    ∙ drop-drop (length b - length a) (length a) s
    ∙ ap (λ m. drop m s) (sym n))

module _ (s : List ℕ) (room : most_bytes ≤ length s) where
  -- after an operation that answers x, the slice holds the file of the list afterwards
  holds_after : (x : Answer (List Scan)) (rs : List Scan) → Fitting rs → ((qs : List Scan) → x ≡ good qs → Fitting qs × (size rs ≤ size qs))
      → (slice_after x (over (bytes_of rs) s) ≡ over (bytes_of (list_after x rs)) s) × (length_after x (length (bytes_of rs)) ≡ length (bytes_of (list_after x rs)))
  holds_after (good qs) rs f g =
      let w = g qs refl in
      (over_over (bytes_of rs) (bytes_of qs) s (omega (arith, size_plain rs, size_plain qs, w.1)) (omega (arith, size_plain qs, w.0.fits)), refl)
  holds_after (refused k p) rs f g = (refl, refl)

  opened_as : (rs : List Scan) → Fitting rs → opened (over (bytes_of rs) s) (length (bytes_of rs)) ≡ good rs
  opened_as rs f = opens s rs room f.small (omega (arith, size_plain rs, f.fits))

  adding_as : (t : List ℕ) (rs : List Scan) → Fitting rs → adding (over (bytes_of rs) s) (length (bytes_of rs)) t ≡ add_plain t rs
  unfolding adding
  adding_as t rs f = rw (opened_as rs f)

  withdrawing_as : (k : ℕ) (rs : List Scan) → Fitting rs → withdrawing (over (bytes_of rs) s) (length (bytes_of rs)) k ≡ withdraw_plain k rs
  unfolding withdrawing
  withdrawing_as k rs f = rw (opened_as rs f)

  fetching_as : (k : ℕ) (rs : List Scan) → Fitting rs → fetching (over (bytes_of rs) s) (length (bytes_of rs)) k ≡ fetch_plain k rs
  unfolding fetching
  fetching_as k rs f = rw (opened_as rs f)

  -- EVERY SEQUENCE on the file of a list answers as on the list
  pub runs : (ops : List Op) (rs : List Scan) → Fitting rs → run_file ops (over (bytes_of rs) s) (length (bytes_of rs)) ≡ run_plain ops rs
  unfolding run_file run_plain
  runs [] rs f = refl
  runs (add t ∷ ops) rs f =
      let x = add_plain t rs in
      let a = holds_after x rs f (λ qs e. (fitting_add t rs qs f e, grows t rs qs e)) in
      let g = fitting_after x rs f (λ qs e. fitting_add t rs qs f e) in
      ap (λ y. added (last_number y) ∷ run_file ops (slice_after y (over (bytes_of rs) s)) (length_after y (length (bytes_of rs)))) (adding_as t rs f)
      ∙ ap (λ l. added (last_number x) ∷ run_file ops l (length_after x (length (bytes_of rs)))) a.0
      ∙ ap (λ n. added (last_number x) ∷ run_file ops (over (bytes_of (list_after x rs)) s) n) a.1
      ∙ ap (λ l. added (last_number x) ∷ l) (runs ops (list_after x rs) g)
  runs (withdraw k ∷ ops) rs f =
      let x = withdraw_plain k rs in
      let a = holds_after x rs f (λ qs e. (fitting_withdraw k rs qs f e, keeps k rs qs e)) in
      let g = fitting_after x rs f (λ qs e. fitting_withdraw k rs qs f e) in
      ap (λ y. withdrew (done y) ∷ run_file ops (slice_after y (over (bytes_of rs) s)) (length_after y (length (bytes_of rs)))) (withdrawing_as k rs f)
      ∙ ap (λ l. withdrew (done x) ∷ run_file ops l (length_after x (length (bytes_of rs)))) a.0
      ∙ ap (λ n. withdrew (done x) ∷ run_file ops (over (bytes_of (list_after x rs)) s) n) a.1
      ∙ ap (λ l. withdrew (done x) ∷ l) (runs ops (list_after x rs) g)
  runs (fetch k ∷ ops) rs f =
      ap (λ y. fetched y ∷ run_file ops (over (bytes_of rs) s) (length (bytes_of rs))) (fetching_as k rs f)
      ∙ ap (λ l. fetched (fetch_plain k rs) ∷ l) (runs ops rs f)

  -- FROM AN EMPTY FILE
  pub runs_empty : (ops : List Op) → run_file ops (over (replicate 8 0) s) 8 ≡ run_plain ops []
  runs_empty ops = ap (λ l. run_file ops (over l s) (length l)) (sym empty_file) ∙ runs ops [] fitting_none
