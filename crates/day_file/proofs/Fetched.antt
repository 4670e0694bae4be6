-- The text that is fetched stands in the slice where its place says; a text that is not is empty.
-- Assumes nothing.
use Prim.Native.Nat.{ℕ, ◌+◌, ◌≤◌, ◌<◌}
use mathlib.Core.Bool.{Bool, true, false}
use mathlib.Core.List.{List, []}
use mathlib.Core.Path.{◌≡◌, refl, sym, ap, ◌∙◌}
use native.Mathlib.Omega.{arith}
use lib.Dec.{leb, ltb, eqb}
use lib.ListN.{length, take, drop}
use borrow.Author.Tests.{ltb-true}
use Rattle.refusal.specs.Answers.{Answer, good, refused, ◌>>=◌, ◌>>◌, check}
use Rattle.refusal.specs.Numbers.{text_too_long, no_scan}
use Rattle.refusal.specs.Limits.{limit}
use Rattle.refusal.specs.Said.{turned}
use Rattle.refusal.proofs.Binds.{by_bind, by_check, same_good, never, not_refused}
use Rattle.day_file.specs.File.{Scan, body}
use Rattle.day_file.specs.Opening.{opened}
use Rattle.day_file.specs.Plain.{numbered, found, fetch_plain}
use Rattle.day_file.specs.Promise.{fetching, Place, placing}
use Rattle.day_file.specs.Answers.{placed_answer, text_of}
use Rattle.day_file.specs.declared.Placed.{Placed}
use Rattle.day_file.proofs.Bytes.{Bytes}
use Rattle.day_file.proofs.Holding.{holds}
use Rattle.day_file.proofs.Numbered.{text_is, inside}

is_placed : (x : Answer Place) (p : Placed) → good p ≡ turned placed_answer x → x ≡ good (record { start = p.start; length = p.length })
is_placed (good x) p e = ap (λ (q : Placed). good (record { start = q.start; length = q.length })) (sym (same_good e))
is_placed (refused k n) p e = not_refused e

-- the place and the text have the same length, or the same refusal
abbrev pub text_length : Answer (List ℕ) → Answer ℕ
text_length (good t) = good (length t)
text_length (refused n p) = refused n p

abbrev pub place_length : Answer Place → Answer ℕ
place_length (good x) = good x.length
place_length (refused n p) = refused n p

pub same_answer : (s : List ℕ) (len k : ℕ) → place_length (placing s len k) ≡ text_length (fetching s len k)
unfolding fetching
same_answer s len k = go (opened s len)
  where
    go₃ : (rs : List Scan) (r : Scan) (b : Bool)
        → place_length (check b text_too_long 0 >> good (record { start = length (body (take k rs)) + 3; length = length r.text })) ≡ text_length (check b text_too_long 0 >> good r.text)
    go₃ rs r true = refl
    go₃ rs r false = refl

    go₂ : (rs : List Scan) (x : Answer Scan)
        → place_length (x >>= λ r. check (leb (length r.text) limit) text_too_long 0 >> good (record { start = length (body (take k rs)) + 3; length = length r.text }))
        ≡ text_length (x >>= λ r. check (leb (length r.text) limit) text_too_long 0 >> good r.text)
    go₂ rs (good r) = go₃ rs r (leb (length r.text) limit)
    go₂ rs (refused n p) = refl

    go : (o : Answer (List Scan))
        → place_length (o >>= λ rs. found k rs >>= λ r. check (leb (length r.text) limit) text_too_long 0 >> good (record { start = length (body (take k rs)) + 3; length = length r.text }))
        ≡ text_length (o >>= λ rs. fetch_plain k rs)
    go (good rs) = go₂ rs (found k rs)
    go (refused n p) = refl

no_text : (x : Answer Place) (y : Answer (List ℕ)) (n p : ℕ) → refused n p ≡ turned placed_answer x → place_length x ≡ text_length y → [] ≡ text_of y
no_text x (refused k q) n p e f = refl
no_text (refused k q) (good t) n p e f = never f
no_text (good x) (good t) n p e f = never e

module _ (s : List ℕ) (len k : ℕ) where
  pub fetched : (p : Placed) → Bytes s → good p ≡ turned placed_answer (placing s len k) → (p.start + p.length ≤ length s) × (take p.length (drop p.start s) ≡ text_of (fetching s len k))
  unfolding fetching
  fetched p y q =
      by_bind (opened s len) _ (is_placed (placing s len k) p q) λ rs e₁ e.
      by_bind (found k rs) _ e λ r e₂ e.
      by_check (leb (length r.text) limit) text_too_long 0 _ e λ t₃ e.
      by_check (ltb k (length rs)) no_scan 0 _ e₂ λ t₁ e₄.
      by_check (eqb (numbered rs k).state 1) no_scan 0 _ e₄ λ t₂ e₅.
      let x = same_good e in
      let w : numbered rs k ≡ r = same_good e₅ in
      let a : length (body (take k rs)) + 3 ≡ p.start = ap (λ (p : Place). p.start) x in
      let b : length (numbered rs k).text ≡ p.length = ap (λ (r : Scan). length r.text) w ∙ ap (λ (p : Place). p.length) x in
      let h : k < length rs = ltb-true k (length rs) t₁ in
      let whole = (holds s len rs y e₁).whole in
      let f : text_of (opened s len >>= λ rs. fetch_plain k rs) ≡ (numbered rs k).text =
      ap (λ o. text_of (o >>= λ rs. fetch_plain k rs)) e₁
      ∙ ap (λ o. text_of (o >>= λ r. check (leb (length r.text) limit) text_too_long 0 >> good r.text)) e₂
      ∙ ap (λ c. text_of (check c text_too_long 0 >> good r.text)) t₃ ∙ ap (λ (r : Scan). r.text) (sym w) in (
        omega (arith, a, b, inside s rs whole k h),
        ap (λ m. take m (drop p.start s)) (sym b) ∙ ap (λ p. take (length (numbered rs k).text) (drop p s)) (sym a) ∙ text_is s rs whole k h ∙ sym f,
      )

  pub not_fetched : (n p : ℕ) → refused n p ≡ turned placed_answer (placing s len k) → [] ≡ text_of (fetching s len k)
  not_fetched n p e = no_text (placing s len k) (fetching s len k) n p e (same_answer s len k)
