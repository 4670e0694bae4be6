-- The whole text: the room of its pieces, and what an accepted message is written as.
-- By cases on what the pieces answer. Assumes nothing.
use Rattle.std.proofs.Common.{ℕ, zero, suc, Bool, true, false, not, ◌&&◌, ◌||◌, ◌≡◌, ◌+◌, ◌*◌, ◌/◌, ◌≤◌, ◌<◌, List, [], ◌∷◌, ◌++◌, length, get_or, leb}
use Rattle.std.proofs.Common.{length-append, All, arith, refl, sym, ap, ◌∙◌}
use lib.Dec.{eqb}
use borrow.Author.Tests.{le-leb, lt-leb, leb-true, eqb-true}
use Rattle.std.proofs.lemmas.List.Elements.{All-cons}
use Rattle.std.specs.declared.result.Result.{Result}
use Rattle.refusal.specs.Answers.{Answer, good, refused, ◌>>=◌, ◌>>◌, check}
use Rattle.refusal.specs.Numbers.{signature_length, too_many_fields}
use Rattle.refusal.specs.Limits.{limit, most_fields}
use Rattle.refusal.specs.Said.{turned}
use Rattle.refusal.specs.Among.{among}
use Rattle.refusal.specs.declared.Refusal.{Refusal}
use Rattle.refusal.proofs.Said.{says_one}
use Rattle.refusal.proofs.Binds.{never, not_refused, same_good, by_or, by_bind, by_check, by_seq}
use Rattle.dictionary.specs.Dictionary.{Dictionary, fixed, row_at, rows_of}
use Rattle.dictionary.specs.declared.Row.{Row}
use Rattle.dictionary.specs.Rows.{rows}
use Rattle.dictionary.specs.declared.Field.{Field}
use Rattle.base32.specs.Base32.{encoded}
use Rattle.base32.proofs.Groups.{length_encoded}
use Rattle.header.specs.declared.Header.{Header}
use Rattle.header.specs.declared.Version.{Version}
use Rattle.header.specs.declared.Version.TheVariants.{V02, V03, V04}
use Rattle.header.specs.Header.{size, version_of, parts, digits, header_chars, write_header}
use Rattle.text.specs.Signature.{length_of_bytes, write_signature}
use Rattle.text.specs.Text.{Message, data_of, within, in_turn, write_data, write_field, write_zone, writing, write_text}
use Rattle.text_writer.specs.Writing.{message_of, WritePromised}
use Rattle.text_writer.specs.inner.Room.{lies_in, spelled_by, field_chars, zone_chars, text_chars}

-- a header has as many characters as its version says
pub header_long : (v : Version) (h : Header) → length h.authority ≡ 4 → length h.certificate ≡ 4 → length h.doctype ≡ 2 → length h.perimeter ≡ 2 → length h.country ≡ 2
    → length (header_chars v h) ≡ size v
unfolding header_chars digits
header_long V02 h a b t p c = simp length-append (omega arith)
header_long V03 h a b t p c = simp length-append (omega arith)
header_long V04 h a b t p c = simp length-append (omega arith)

-- the room of the three pieces, one behind the other
pieces : (a b c : Answer (List ℕ)) → turned length (a >>= λ h. b >>= λ z. c >>= λ g. good (h ++ (z ++ (31 ∷ g))))
    ≡ (turned length a >>= λ h. turned length b >>= λ z. turned length c >>= λ g. good (((h + z) + 1) + g))
pieces (good h) (good z) (good g) = ap good (omega (arith, length-append h (z ++ (31 ∷ g)), length-append z (31 ∷ g)))
pieces (good h) (good z) (refused k p) = refl
pieces (good h) (refused k p) c = refl
pieces (refused k p) b c = refl

signed : (g : List ℕ) → turned length (write_signature g) ≡ (check (length_of_bytes (length g)) signature_length 0 >> good ((8 * length g + 4) / 5))
unfolding write_signature
signed g = go (length_of_bytes (length g))
  where
    go : (b : Bool) → turned length (check b signature_length 0 >> good (encoded g)) ≡ (check b signature_length 0 >> good ((8 * length g + 4) / 5))
    go true = ap good (length_encoded g)
    go false = refl

-- an answer whose value is not looked at, and a check
joined : (x : Answer (Unit {0})) (b : Answer ℕ) (t : Bool) (n k : ℕ)
    → ((x >>= λ _. good n) >>= λ h. b >>= λ z. (check t signature_length 0 >> good k) >>= λ g. good (((h + z) + 1) + g)) ≡ (x >>= λ _. b >>= λ z. check t signature_length 0 >> good (((n + z) + 1) + k))
joined (good u) (good z) true n k = refl
joined (good u) (good z) false n k = refl
joined (good u) (refused j p) t n k = refl
joined (refused j p) b t n k = refl

-- how long a header of a known version is
abbrev header_length : Answer Version → Header → ℕ
header_length (good v) h = length (header_chars v h)
header_length (refused k p) h = 0

headed : (h : Header) → turned length (write_header h) ≡ (turned (λ _. tt {0}) (write_header h) >>= λ _. good (header_length (version_of (get_or h.version 0 0) (get_or h.version 1 0)) h))
headed h = go (version_of (get_or h.version 0 0) (get_or h.version 1 0))
  where
    behind : (x : Answer Header) (l : List ℕ) → turned length (x >> good l) ≡ (turned (λ _. tt {0}) (x >> good l) >>= λ _. good (length l))
    behind (good x) l = refl
    behind (refused k p) l = refl

    go : (x : Answer Version) → turned length (x >>= λ v. parts v (header_chars v h) >> good (header_chars v h)) ≡ (turned (λ _. tt {0}) (x >>= λ v. parts v (header_chars v h) >> good (header_chars v h)) >>= λ _. good (header_length x h))
    go (good v) = behind (parts v (header_chars v h)) (header_chars v h)
    go (refused k p) = refl

pub text_room : (h : Header) (f : List Field) (g s : List ℕ) → length f ≤ most_fields → turned length (writing rows (message_of h f g) s)
    ≡ (turned (λ _. tt {0}) (write_header h) >>= λ _. turned length (write_zone rows s [] 0 f) >>= λ z. check (length_of_bytes (length g)) signature_length 0
    >> good (((header_length (version_of (get_or h.version 0 0) (get_or h.version 1 0)) h + z) + 1) + (8 * length g + 4) / 5))
unfolding writing
text_room h f g s few =
    let n = header_length (version_of (get_or h.version 0 0) (get_or h.version 1 0)) h in
    rw (le-leb (length f) most_fields few) (
    pieces (write_header h) (write_zone rows s [] 0 f) (write_signature g)
    ∙ ap (λ (x : Answer ℕ). x >>= λ h. turned length (write_zone rows s [] 0 f) >>= λ z. turned length (write_signature g) >>= λ g. good (((h + z) + 1) + g)) (headed h)
    ∙ ap (λ (x : Answer ℕ). (turned (λ _. tt {0}) (write_header h) >>= λ _. good n) >>= λ h. turned length (write_zone rows s [] 0 f) >>= λ z. x >>= λ g. good (((h + z) + 1) + g)) (signed g)
    ∙ joined (turned (λ _. tt {0}) (write_header h)) (turned length (write_zone rows s [] 0 f)) (length_of_bytes (length g)) n ((8 * length g + 4) / 5))

-- WHAT AN ACCEPTED RECORD IS WRITTEN AS, and that its data lie in the slice
row_any : (d : Dictionary) (n i j : ℕ) {r : Row} → row_at d n i ≡ good r → row_at d n j ≡ good r
unfolding row_at
row_any [] n i j e = never e
row_any (r ∷ d) zero i j e = e
row_any (r ∷ d) (suc n) i j e = row_any d n i j e

field_good : (d : Dictionary) (s : List ℕ) (before : List Field) (i : ℕ) (f : Field) (x : List ℕ)
    → write_field d s before i f ≡ good x → (x ≡ field_chars d s f) × lies_in (length s) f
unfolding write_field write_data
field_good d s before i f x e =
    by_bind (row_at d f.row i) _ e λ r er e.
    by_check (leb (f.start + f.length) (length s)) _ _ _ e λ h e.
    by_check (not (among f.row (rows_of before))) _ _ _ e λ _ e.
    by_check (not (f.cut && fixed r)) _ _ _ e λ _ e.
    by_check (within r.greatest (length (data_of s f))) _ _ _ e λ _ e.
    by_check (in_turn r [] (data_of s f)) _ _ _ e λ _ e.
    by_check (leb r.least (length (data_of s f))) _ _ _ e λ _ e.
    (sym (same_good e) ∙ sym (ap (λ x. spelled_by x (data_of s f) f.cut) (row_any d f.row i 0 er)), leb-true (f.start + f.length) (length s) h)

zone_good : (d : Dictionary) (s : List ℕ) (before : List Field) (i : ℕ) (fs : List Field) (z : List ℕ)
    → write_zone d s before i fs ≡ good z → (z ≡ zone_chars d s fs) × All (lies_in (length s)) fs
unfolding write_zone
zone_good d s before i [] z e = (sym (same_good e), λ k d h. absurd (omega arith))
zone_good d s before i (f ∷ fs) z e =
    by_bind (write_field d s before i f) _ e λ x ex e.
    by_bind (write_zone d s (before ++ (f ∷ [])) (suc i) fs) _ e λ y ey e.
    let a = field_good d s before i f x ex in
    let b = zone_good d s (before ++ (f ∷ [])) (suc i) fs y ey in
    (sym (same_good e) ∙ ap (λ (l : List ℕ). l ++ y) a.0 ∙ ap (λ (l : List ℕ). field_chars d s f ++ l) b.0, All-cons (lies_in (length s)) f fs a.1 b.1)

-- a signature's length is one of three
signature_most : (n : ℕ) → length_of_bytes n ≡ true → n ≤ 132
signature_most n e =
    by_or (eqb n 64 || eqb n 96) (eqb n 132) e
    (λ b. by_or (eqb n 64) (eqb n 96) b (λ a. omega (arith, eqb-true n 64 a)) (λ a. omega (arith, eqb-true n 96 a)))
    (λ a. omega (arith, eqb-true n 132 a))

-- AND AN ACCEPTED MESSAGE, by any dictionary
pub record Accepted (d : Dictionary) (v : Version) (h : Header) (f : List Field) (g s : List ℕ) (n : ℕ) : Type 0 where
  pub written : writing d (message_of h f g) s ≡ good (text_chars d v h f g s)
  pub inside : All (lies_in (length s)) f
  pub signed : length g ≤ 132
  pub long : length (text_chars d v h f g s) ≡ n

module _ (d : Dictionary) (v : Version) (h : Header) (f : List Field) (g s : List ℕ)
    (e : version_of (get_or h.version 0 0) (get_or h.version 1 0) ≡ good v) where
  -- a text of n characters was written: so it is the message's characters
  text_good : (n : ℕ) (t : List ℕ) → writing d (message_of h f g) s ≡ good t → length t ≡ n → Accepted d v h f g s n
  unfolding writing write_signature
  text_good n t w l =
      by_check (leb (length f) most_fields) _ _ _ w λ _ k.
      by_bind (write_header h) _ k λ a ea k.
      by_bind (write_zone d s [] 0 f) _ k λ z ez k.
      by_bind (write_signature g) _ k λ c ec k.
      by_check (length_of_bytes (length g)) _ _ _ ec λ b ec.
      let zone = zone_good d s [] 0 f z ez in
      let head : a ≡ header_chars v h = by_seq (parts v (header_chars v h)) (good (header_chars v h)) (rw e at ea) λ _ _ k. sym (same_good k) in
      let is : t ≡ text_chars d v h f g s = sym (same_good k) ∙ (λ j. head j ++ (zone.0 j ++ (31 ∷ same_good (sym ec) j))) in
      record { written = w ∙ ap good is; inside = zone.1; signed = signature_most (length g) b; long = ap length (sym is) ∙ l }

  -- what takes the room of n characters is accepted
  pub accepted : {n : ℕ} → good n ≡ turned length (writing d (message_of h f g) s) → Accepted d v h f g s n
  accepted {n} k = go (writing d (message_of h f g) s) refl k
    where
      go : (w : Answer (List ℕ)) → writing d (message_of h f g) s ≡ w → good n ≡ turned length w → Accepted d v h f g s n
      go (good t) o k = text_good n t o (sym (same_good k))
      go (refused j p) o k = not_refused k

-- a refusal is the room's
abbrev shown : Answer ℕ → Answer (List ℕ) → Answer (List ℕ)
shown (good n) x = x
shown (refused k p) x = refused k p

module _ (h : Header) (f : List Field) (g s : List ℕ) where
  pub refusal_shown : writing rows (message_of h f g) s ≡ shown (turned length (writing rows (message_of h f g) s)) (writing rows (message_of h f g) s)
  refusal_shown = go (writing rows (message_of h f g) s)
    where
      go : (x : Answer (List ℕ)) → x ≡ shown (turned length x) x
      go (good t) = refl
      go (refused k p) = refl

  pub too_many : most_fields < length f → writing rows (message_of h f g) s ≡ refused too_many_fields most_fields
  unfolding writing
  too_many e = rw (lt-leb (length f) most_fields e)

  pub unknown : length f ≤ most_fields → (k p : ℕ) → version_of (get_or h.version 0 0) (get_or h.version 1 0) ≡ refused k p → writing rows (message_of h f g) s ≡ refused k p
  unfolding writing
  unknown few k p e = rw (le-leb (length f) most_fields few, e)

pub chars_long : (v : Version) (h : Header) (f : List Field) (g s : List ℕ) → length (header_chars v h) ≡ size v → length (text_chars rows v h f g s) ≡ ((size v + length (zone_chars rows s f)) + 1) + (8 * length g + 4) / 5
chars_long v h f g s long = omega (arith, long, length-append (header_chars v h) (zone_chars rows s f ++ (31 ∷ encoded g)), length-append (zone_chars rows s f) (31 ∷ encoded g), length_encoded g)

-- what fits is written
pub written_whole : (m : Message) (s t : List ℕ) (room : ℕ) → writing rows m s ≡ good t → length t ≤ limit → length t ≤ room → write_text rows m s room ≡ good t
unfolding write_text
written_whole m s t room e h k = rw (e, le-leb (length t) limit h, le-leb (length t) room k)

-- WHAT `write_text` PROMISES leaves only one possible answer
pub only_one : (h : Header) (f : List Field) (s source old new new' : List ℕ) (r r' : Result ℕ Refusal) → WritePromised h f s source old new r → WritePromised h f s source old new' r' → (r ≡ r') × (new ≡ new')
only_one h f s source old new new' r r' p q = (says_one r r' (p.0 ∙ sym q.0), p.1 ∙ sym q.1)
