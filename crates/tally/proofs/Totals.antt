-- Accepted and refused texts together are the live records of the files added. Over any function from texts to slots that
-- stays within the tally. By induction on the records, then on the files.
-- Assumes nothing.
use Prim.Native.Nat.{ℕ, zero, suc, ◌+◌, ◌<◌}
use mathlib.Core.Bool.{Bool, true, false}
use mathlib.Core.List.{List, [], ◌∷◌, ◌++◌}
use mathlib.Core.Path.{◌≡◌, refl, sym, ap, ◌∙◌}
use native.Mathlib.Omega.{arith}
use native.Mathlib.Nat.{not-suc-le-zero}
use lib.Dec.{ltb}
use lib.ListN.{length, get_or, set, take, drop, take-append-drop}
use Rattle.refusal.specs.Pick.{pick}
use Rattle.refusal.specs.Answers.{Answer, good, refused}
use Rattle.refusal.specs.Numbers.{count_full}
use Rattle.refusal.proofs.Binds.{by_bind, by_check, same_good}
use Rattle.day_file.specs.File.{Scan}
use Rattle.day_file.specs.Opening.{records}
use Rattle.squeeze.specs.Squeeze.{is_live, live_ones}
use Rattle.tally.specs.Counting.{most_count, slot_in, add_text, add_scan, add_all, counting, sum, accepted_in, refused_in, tally_after, week, live_in, if_added, live_added}
use Rattle.tally.specs.declared.Tally.{Tally}
use Rattle.tally.proofs.Counts.{scan_long}

sum_append : (l m : List ℕ) → sum (l ++ m) ≡ sum l + sum m
unfolding sum
sum_append [] m = omega arith
sum_append (n ∷ l) m = omega (arith, sum_append l m)

pub sum_more : (l : List ℕ) (k : ℕ) → k < length l → sum (set l k (get_or l k 0 + 1)) ≡ sum l + 1
unfolding sum
sum_more [] k h = absurd (not-suc-le-zero h)
sum_more (n ∷ l) zero h = omega arith
sum_more (n ∷ l) (suc k) h = omega (arith, sum_more l k (omega arith))

-- accepted and refused together are all counts
pub in_all : (t : Tally) → accepted_in t + refused_in t ≡ sum t.counts
in_all t = sym (sum_append (take 6 t.counts) (drop 6 t.counts)) ∙ ap sum (take-append-drop 6 t.counts)

-- where every text has its place in a tally of 262 counts
module _ (small : (text : List ℕ) → slot_in text < 262) where
  text_total : (text : List ℕ) (t u : Tally) → length t.counts ≡ 262 → add_text text t ≡ good u → sum u.counts ≡ sum t.counts + 1
  unfolding add_text
  text_total text t u n e =
      by_check (ltb (get_or t.counts (slot_in text) 0) most_count) count_full 0 _ e λ _ q.
      ap (λ (v : Tally). sum v.counts) (sym (same_good q)) ∙ sum_more t.counts (slot_in text) (omega (arith, small text, n))

  pub list_total : (rs : List Scan) (t u : Tally) → length t.counts ≡ 262 → add_all rs t ≡ good u
      → (sum u.counts ≡ sum t.counts + length (live_ones rs)) × (length u.counts ≡ 262)
  unfolding add_all live_ones
  list_total [] t u n e = let z : t ≡ u = same_good e in (omega (arith, ap (λ (v : Tally). sum v.counts) z), ap (λ (v : Tally). length v.counts) (sym z) ∙ n)
  list_total (r ∷ rs) t u n e =
      by_bind (add_scan r t) (add_all rs) e λ v e₁ e₂.
      let m : length v.counts ≡ 262 = scan_long r t v e₁ ∙ n in
      let i = list_total rs v u m e₂ in
      (go (is_live r) v e₁ i.0, i.1)
    where
      go : (b : Bool) (v : Tally) → pick b (add_text r.text t) (good t) ≡ good v → sum u.counts ≡ sum v.counts + length (live_ones rs) → sum u.counts ≡ sum t.counts + length (pick b (r ∷ live_ones rs) (live_ones rs))
      go true v q w = omega (arith, w, text_total r.text t v n q)
      go false v q w = let z : t ≡ v = same_good q in omega (arith, w, ap (λ (v : Tally). sum v.counts) z)

  file_total : (f : List ℕ) (t u : Tally) → length t.counts ≡ 262 → counting f t ≡ good u
      → (sum u.counts ≡ sum t.counts + live_in (records f)) × (length u.counts ≡ 262)
  unfolding counting
  file_total f t u n e =
      by_bind (records f) _ e λ rs e₁ e₂.
      let w = list_total rs t u n e₂ in
      (w.0 ∙ ap (λ x. sum t.counts + live_in x) (sym e₁), w.1)

  week_sum : (fs : List (List ℕ)) (t : Tally) → length t.counts ≡ 262 → sum (week fs t).counts ≡ sum t.counts + live_added fs t
  unfolding week live_added
  week_sum [] t n = omega arith
  week_sum (f ∷ fs) t n = go (counting f t) refl (λ u m. week_sum fs u m)
    where
      -- the rest of the week, from any tally of the right size
      go : (x : Answer Tally) → counting f t ≡ x → ((u : Tally) → length u.counts ≡ 262 → sum (week fs u).counts ≡ sum u.counts + live_added fs u)
          → sum (week fs (tally_after x t)).counts ≡ sum t.counts + (if_added x (live_in (records f)) + live_added fs (tally_after x t))
      go (good u) q k = let w = file_total f t u n q in omega (arith, w.0, k u w.1)
      go (refused _ _) q k = omega (arith, k t n)

  -- THE WEEK: files one after the other
  pub week_total : (fs : List (List ℕ)) (t : Tally) → length t.counts ≡ 262 → accepted_in (week fs t) + refused_in (week fs t) ≡ accepted_in t + refused_in t + live_added fs t
  week_total fs t n = in_all (week fs t) ∙ week_sum fs t n ∙ ap (λ k. k + live_added fs t) (sym (in_all t))
