-- What counting keeps: the tally's length.
-- Assumes nothing.
use Prim.Native.Nat.{ℕ}
use mathlib.Core.Bool.{Bool, true, false}
use mathlib.Core.List.{List}
use mathlib.Core.Path.{◌≡◌, sym, ap, ◌∙◌}
use lib.Dec.{ltb}
use lib.ListN.{length, get_or, length-set}
use Rattle.refusal.specs.Pick.{pick}
use Rattle.refusal.specs.Answers.{good}
use Rattle.refusal.specs.Numbers.{count_full}
use Rattle.refusal.proofs.Binds.{by_check, same_good}
use Rattle.day_file.specs.File.{Scan}
use Rattle.squeeze.specs.Squeeze.{is_live}
use Rattle.tally.specs.Counting.{most_count, slot_in, add_text, add_scan}
use Rattle.tally.specs.declared.Tally.{Tally}

text_long : (text : List ℕ) (t u : Tally) → add_text text t ≡ good u → length u.counts ≡ length t.counts
unfolding add_text
text_long text t u e =
    by_check (ltb (get_or t.counts (slot_in text) 0) most_count) count_full 0 _ e λ _ q.
    ap (λ (v : Tally). length v.counts) (sym (same_good q)) ∙ length-set t.counts (slot_in text) _

pub scan_long : (r : Scan) (t u : Tally) → add_scan r t ≡ good u → length u.counts ≡ length t.counts
scan_long r t u e = go (is_live r) e
  where
    go : (b : Bool) → pick b (add_text r.text t) (good t) ≡ good u → length u.counts ≡ length t.counts
    go true q = text_long r.text t u q
    go false q = ap (λ (v : Tally). length v.counts) (sym (same_good q))
