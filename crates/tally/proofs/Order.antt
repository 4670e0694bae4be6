-- The order of two files does not change the sums, where neither is refused: what is counted is one more in a slot for each live text, and two
-- such steps can be exchanged.
-- Assumes nothing.
use Prim.Native.Nat.{ℕ, zero, suc, ◌+◌}
use mathlib.Core.Bool.{Bool, true, false}
use mathlib.Core.List.{List, [], ◌∷◌}
use mathlib.Core.Path.{◌≡◌, refl, sym, ap, ◌∙◌}
use lib.Dec.{ltb}
use lib.ListN.{get_or, set}
use Rattle.refusal.specs.Pick.{pick}
use Rattle.refusal.specs.Answers.{good}
use Rattle.refusal.specs.Numbers.{count_full}
use Rattle.refusal.proofs.Binds.{by_bind, by_check, same_good}
use Rattle.day_file.specs.File.{Scan}
use Rattle.day_file.specs.Opening.{records}
use Rattle.squeeze.specs.Squeeze.{is_live}
use Rattle.tally.specs.Counting.{most_count, slot_in, add_text, add_scan, add_all, counting}
use Rattle.tally.specs.declared.Tally.{Tally}

-- one more in a slot
abbrev bump : ℕ → List ℕ → List ℕ
bump k l = set l k (get_or l k 0 + 1)

exchanged : (j k : ℕ) (l : List ℕ) → bump j (bump k l) ≡ bump k (bump j l)
exchanged j k [] = refl
exchanged zero zero (x ∷ l) = refl
exchanged zero (suc k) (x ∷ l) = refl
exchanged (suc j) zero (x ∷ l) = refl
exchanged (suc j) (suc k) (x ∷ l) = ap (λ m. x ∷ m) (exchanged j k l)

-- one more for a live text
abbrev bump_for : Scan → List ℕ → List ℕ
bump_for r l = pick (is_live r) (bump (slot_in r.text) l) l

unfoldable bumps : List Scan → List ℕ → List ℕ
bumps [] l = l
bumps (r ∷ rs) l = bumps rs (bump_for r l)

two_bumps : (r q : Scan) (l : List ℕ) → bump_for r (bump_for q l) ≡ bump_for q (bump_for r l)
two_bumps r q l = go (is_live r) (is_live q)
  where
    j : ℕ
    j = slot_in r.text

    k : ℕ
    k = slot_in q.text

    go : (a b : Bool) → pick a (bump j (pick b (bump k l) l)) (pick b (bump k l) l) ≡ pick b (bump k (pick a (bump j l) l)) (pick a (bump j l) l)
    go true true = exchanged j k l
    go true false = refl
    go false true = refl
    go false false = refl

one_past : (r : Scan) (rs : List Scan) (l : List ℕ) → bumps rs (bump_for r l) ≡ bump_for r (bumps rs l)
unfolding bumps
one_past r [] l = refl
one_past r (q ∷ rs) l = ap (bumps rs) (two_bumps q r l) ∙ one_past r rs (bump_for q l)

all_past : (rs qs : List Scan) (l : List ℕ) → bumps rs (bumps qs l) ≡ bumps qs (bumps rs l)
unfolding bumps
all_past [] qs l = refl
all_past (r ∷ rs) qs l = ap (bumps rs) (sym (one_past r qs l)) ∙ all_past rs qs (bump_for r l)

-- what counting does, where it is not refused
scan_bumps : (r : Scan) (t u : Tally) → add_scan r t ≡ good u → u.counts ≡ bump_for r t.counts
unfolding add_text
scan_bumps r t u e = go (is_live r) e
  where
    go : (b : Bool) → pick b (add_text r.text t) (good t) ≡ good u → u.counts ≡ pick b (bump (slot_in r.text) t.counts) t.counts
    go true q = by_check (ltb (get_or t.counts (slot_in r.text) 0) most_count) count_full 0 _ q λ _ q. ap (λ (v : Tally). v.counts) (sym (same_good q))
    go false q = ap (λ (v : Tally). v.counts) (sym (same_good q))

all_bumps : (rs : List Scan) (t u : Tally) → add_all rs t ≡ good u → u.counts ≡ bumps rs t.counts
unfolding add_all bumps
all_bumps [] t u e = ap (λ (v : Tally). v.counts) (sym (same_good e))
all_bumps (r ∷ rs) t u e = by_bind (add_scan r t) (add_all rs) e λ v e₁ e₂. all_bumps rs v u e₂ ∙ ap (bumps rs) (scan_bumps r t v e₁)

-- THE SUMS OF TWO FILES, in either order
pub either_order : (f g : List ℕ) (t u v u' v' : Tally) → counting f t ≡ good u → counting g u ≡ good v → counting g t ≡ good u' → counting f u' ≡ good v' → v.counts ≡ v'.counts
unfolding counting
either_order f g t u v u' v' e₁ e₂ e₃ e₄ =
    by_bind (records f) _ e₁ λ rs q₁ s₁.
    by_bind (records g) _ e₂ λ qs q₂ s₂.
    by_bind (records g) _ e₃ λ qs' q₃ s₃.
    by_bind (records f) _ e₄ λ rs' q₄ s₄.
    all_bumps qs u v s₂ ∙ ap (bumps qs) (all_bumps rs t u s₁) ∙ all_past qs rs t.counts
    ∙ ap (λ l. bumps l (bumps qs t.counts)) (same_good (sym q₁ ∙ q₄))
    ∙ ap (λ l. bumps rs' (bumps l t.counts)) (same_good (sym q₂ ∙ q₃))
    ∙ sym (all_bumps rs' u' v' s₄ ∙ ap (bumps rs') (all_bumps qs' t u' s₃))
