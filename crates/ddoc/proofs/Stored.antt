-- The fields of a text that was read fit the lent list.
-- They are at most 64: a zone counts its room down with each field, by induction on the room; and a list with less room is refused.
-- Assumes nothing.
use Prim.Native.Nat.{ℕ, zero, suc, ◌+◌, ◌≤◌}
use mathlib.Core.Bool.{not}
use mathlib.Core.List.{List, [], ◌∷◌, ◌++◌}
use mathlib.Core.Path.{◌≡◌, subst}
use native.Mathlib.Omega.{arith}
use lib.Dec.{leb}
use lib.ListN.{length, drop, length-append}
use borrow.Author.Tests.{leb-true}
use Rattle.refusal.specs.Answers.{good}
use Rattle.refusal.specs.Numbers.{identifier_repeated, data_too_short, text_too_long, lent_too_short}
use Rattle.refusal.specs.Limits.{limit, most_fields}
use Rattle.refusal.proofs.Binds.{never, same_good, by_bind, by_check}
use Rattle.refusal.specs.Among.{among}
use Rattle.dictionary.specs.Dictionary.{Dictionary, find, rows_of}
use Rattle.dictionary.specs.Rows.{rows}
use Rattle.dictionary.specs.declared.Field.{Field}
use Rattle.header.specs.Header.{size, read_header}
use Rattle.text.specs.Signature.{read_signature}
use Rattle.text.specs.Zone.{read_data, zone}
use Rattle.text.specs.Text.{at_mark, Received, reading, read_text}

zone_few : (d : Dictionary) (room : ℕ) (before : List Field) (p : ℕ) (l : List ℕ) (x : List Field) → zone d room before p l ≡ good x → length x ≤ length before + room
unfolding zone
zone_few d zero before p [] x e = subst (λ (z : List Field). length z ≤ length before + 0) (same_good e) (omega arith)
zone_few d zero before p (c ∷ []) x e = never e
zone_few d zero before p (a ∷ b ∷ l) x e =
    by_bind (find a b 0 p d) _ e λ n _ e.
    by_check (not (among n.number (rows_of before))) identifier_repeated p _ e λ _ e.
    never e
zone_few d (suc room) before p [] x e = subst (λ (z : List Field). length z ≤ length before + suc room) (same_good e) (omega arith)
zone_few d (suc room) before p (c ∷ []) x e = never e
zone_few d (suc room) before p (a ∷ b ∷ l) x e =
    by_bind (find a b 0 p d) _ e λ n _ e.
    by_check (not (among n.number (rows_of before))) identifier_repeated p _ e λ _ e.
    by_bind (read_data n.row p [] (p + 2) l) _ e λ y _ e.
    by_check (leb n.row.least (length y.chars)) data_too_short p _ e λ _ e.
    let f : Field = record { row = n.number; start = p + 2; length = length y.chars; cut = y.cut } in
    let k : length x ≤ length (before ++ (f ∷ [])) + room = zone_few d room (before ++ (f ∷ [])) y.next y.rest x e in
    let m : length (before ++ (f ∷ [])) ≡ length before + 1 = length-append before (f ∷ []) in
    omega (arith, k, m)

reading_few : (t : List ℕ) (x : Received) → reading rows t ≡ good x → length x.message.fields ≤ most_fields
unfolding reading
reading_few t x e =
    by_bind (read_header t) _ e λ y _ e.
    by_bind (at_mark (size y.version) (drop (size y.version) t)) _ e λ h _ e.
    by_bind (zone rows most_fields [] (size y.version) h.before) _ e λ f few e.
    by_bind (read_signature y.version (suc (size y.version + length h.before)) h.behind) _ e λ s _ e.
    subst (λ (r : Received). length r.message.fields ≤ most_fields) (same_good e) (zone_few rows most_fields [] (size y.version) h.before f few)

-- an accepted text's fields fit the lent list
pub fields_fit : (room : ℕ) (t : List ℕ) (x : Received) → read_text rows room t ≡ good x → length x.message.fields ≤ room
unfolding read_text
fields_fit room t x e =
    by_check (leb (length t) limit) text_too_long limit _ e λ _ e.
    by_check (leb most_fields room) lent_too_short 0 _ e λ h e.
    let few : length x.message.fields ≤ 64 = reading_few t x e in
    let wide : 64 ≤ room = leb-true most_fields room h in
    omega (arith, few, wide)
