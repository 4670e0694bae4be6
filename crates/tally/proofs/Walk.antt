-- The walk over the records of a file that was opened: each stands where the trailer says, and with it is counted what the definition
-- counts. What is left to count, with the tally so far, is what the whole is.
-- Assumes nothing.
use Prim.Native.Nat.{ℕ, ◌+◌, ◌-◌, ◌*◌, ◌≤◌, ◌<◌}
use mathlib.Core.List.{List, []}
use mathlib.Core.Path.{◌≡◌, refl, sym, ap, ◌∙◌}
use native.Mathlib.Omega.{arith}
use native.Mathlib.Numerals.{add-one}
use lib.ListN.{length, get_or, take, drop, drop_of_length-le}
use lib.Seq.{drop-cons}
use borrow.Author.Tests.{eq-eqb, ne_eqb}
use Rattle.refusal.specs.Pick.{pick}
use Rattle.refusal.specs.Answers.{Answer, good, refused, ◌>>=◌}
use Rattle.refusal.specs.Said.{turned}
use Rattle.refusal.proofs.Binds.{not_refused, never}
use Rattle.day_file.specs.File.{Scan}
use Rattle.day_file.specs.Opening.{two_at, four_at, records}
use Rattle.day_file.specs.Opens.{list_of, Opens}
use Rattle.day_file.specs.Plain.{numbered}
use Rattle.day_file.specs.declared.Opened.{Opened}
use Rattle.day_file.proofs.Bytes.{Bytes}
use Rattle.day_file.proofs.Numbered.{opened_is, Known, known_whole, Starts, starts_at, text_is}
use Rattle.tally.specs.Counting.{add_text, add_scan, add_all, tally_after, counting}
use Rattle.tally.specs.declared.Tally.{Tally}

same_refusal : {A B : Type 0} {k p k' p' : ℕ} → ◌≡◌ {A = Answer A} (refused k p) (refused k' p') → ◌≡◌ {A = Answer B} (refused k p) (refused k' p')
same_refusal {k = k} {p = p} {k' = k'} {p' = p'} e =
    let number : k ≡ k' = cc in
    let place : p ≡ p' = cc in rw (number, place) refl

-- what the code says of a text that was counted or refused, for what comes behind it
goes_on : (x : Answer Tally) (old new : Tally) (f : Tally → Answer Tally) → ◌≡◌ {A = Answer (Unit {0})} (good tt) (turned (λ _. tt) x) → new ≡ tally_after x old → f new ≡ x >>= f
goes_on (good u) old new f e n = ap f n
goes_on (refused k p) old new f e n = not_refused e

stops : (x : Answer Tally) (f : Tally → Answer Tally) (k p : ℕ) → ◌≡◌ {A = Answer (Unit {0})} (refused k p) (turned (λ _. tt) x) → refused k p ≡ x >>= f
stops (good u) f k p e = never e
stops (refused k' p') f k p e = same_refusal e

next_of : (rs : List Scan) (i : ℕ) → i < length rs → (t : Tally) → add_all (drop i rs) t ≡ add_scan (numbered rs i) t >>= add_all (drop (i + 1) rs)
unfolding add_all
next_of rs i h t = ap (λ l. add_all l t) (drop-cons rs i (record { state = 0; text = [] }) h) ∙ ap (λ n. add_scan (numbered rs i) t >>= add_all (drop n rs)) (sym (add-one i))

none_left : (rs : List Scan) (i : ℕ) → length rs ≤ i → (t : Tally) → add_all (drop i rs) t ≡ good t
unfolding add_all
none_left rs i h t = ap (λ l. add_all l t) (drop_of_length-le rs {i = i} h)

module _ (f : List ℕ) (o : Opened) (y : Bytes f) (e : Opens (records f) o) where
  abbrev rs : List Scan
  rs = list_of (records f)

  abbrev k : Known f (length f) o (list_of (records f))
  k = known_whole f o y e

  whole : (t : Tally) → add_all (list_of (records f)) t ≡ counting f t
  unfolding counting
  whole t = sym (rw (opened_is (records f) o e) refl)

  pub ended : (t old : Tally) (i : ℕ) → o.count ≤ i → add_all (drop i (list_of (records f))) t ≡ add_all (list_of (records f)) old → good t ≡ counting f old
  ended t old i h sofar = sym (none_left rs i (omega (arith, k.count)) t) ∙ sofar ∙ whole old

  -- a turn
  module _ (i : ℕ) (h : i < o.count) (at : ℕ) (a : at ≡ four_at f (o.trailer + 4 * i)) where
    abbrev w : Starts f (list_of (records f)) i at
    w = starts_at f (length f) o rs k i h at a

    abbrev r : Scan
    r = numbered rs i

    pub head_inside : at + 1 + 2 ≤ length f
    head_inside = omega (arith, w.room)

    pub text_inside : (n : ℕ) → n ≡ two_at f (at + 1) → at + 3 + n ≤ length f
    text_inside n m = omega (arith, m, w.room, w.size)

    module _ (t old : Tally) (sofar : add_all (drop i (list_of (records f))) t ≡ add_all (list_of (records f)) old) where
      -- a withdrawn record
      pub passed : (get_or f at 0 ≡ 1 → ⊥) → add_all (drop (i + 1) (list_of (records f))) t ≡ add_all (list_of (records f)) old
      passed g =
          sym (next_of rs i w.low t ∙ ap (λ b. pick b (add_text r.text t) (good t) >>= add_all (drop (i + 1) rs)) (ne_eqb r.state 1 (λ q. g (w.state ∙ q))))
          ∙ sofar

      -- a live one
      module _ (l : get_or f at 0 ≡ 1) (n : ℕ) (m : n ≡ two_at f (at + 1)) where
        abbrev part : List ℕ
        part = take (at + 3 + n - (at + 3)) (drop (at + 3) f)

        text : take (at + 3 + n - (at + 3)) (drop (at + 3) f) ≡ r.text
        text =
            let long : at + 3 + n - (at + 3) ≡ length r.text = omega (arith, m, w.size) in
            ap (λ j. take j (drop (at + 3) f)) long ∙ ap (λ p. take (length r.text) (drop (p + 3) f)) w.is ∙ text_is f rs k.whole i w.low

        live : add_text part t >>= add_all (drop (i + 1) rs) ≡ add_all rs old
        live =
            sym (next_of rs i w.low t ∙ ap (λ b. pick b (add_text r.text t) (good t) >>= add_all (drop (i + 1) rs)) (eq-eqb r.state 1 (sym w.state ∙ l))
            ∙ ap (λ s. add_text s t >>= add_all (drop (i + 1) rs)) (sym text))
            ∙ sofar

        pub counted : (u : Tally) → ◌≡◌ {A = Answer (Unit {0})} (good tt) (turned (λ _. tt) (add_text (take (at + 3 + n - (at + 3)) (drop (at + 3) f)) t))
            → u ≡ tally_after (add_text (take (at + 3 + n - (at + 3)) (drop (at + 3) f)) t) t → add_all (drop (i + 1) (list_of (records f))) u ≡ add_all (list_of (records f)) old
        counted u q s = goes_on (add_text part t) t u (add_all (drop (i + 1) rs)) q s ∙ live

        pub stopped : (j p : ℕ) → ◌≡◌ {A = Answer (Unit {0})} (refused j p) (turned (λ _. tt) (add_text (take (at + 3 + n - (at + 3)) (drop (at + 3) f)) t)) → refused j p ≡ counting f old
        stopped j p q = stops (add_text part t) (add_all (drop (i + 1) rs)) j p q ∙ live ∙ whole old
