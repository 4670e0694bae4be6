-- New rows do not disturb old readings. Two readings of one text differ only in the search for an identifier: where the first finds a row, the
-- second finds the same row; and since identifiers are distinct in each dictionary, a row is repeated under both or under neither. So
-- the proof has a line for a line of the reading. Of our own rows, with more behind them, still more holds: no row changes its
-- number, so an accepted text has the very same answer.
-- Assumes nothing.
use Prim.Native.Nat.{ℕ, zero, suc, ◌+◌}
use mathlib.Core.Bool.{Bool, true, false, not, ◌&&◌}
use mathlib.Core.List.{List, [], ◌∷◌, ◌++◌, map}
use mathlib.Core.Logic.{◌⊎◌, inl, inr}
use mathlib.Core.Path.{◌≡◌, refl, ap, sym, ◌∙◌}
use native.Mathlib.Omega.{arith}
use lib.Dec.{leb, eqb}
use lib.ListN.{length, take, drop, replicate}
use borrow.Author.Tests.{eqb-true, eqb-false, eq-eqb, ne_eqb}
use Rattle.refusal.specs.Answers.{Answer, good, refused, ◌>>=◌, ◌>>◌, check}
use Rattle.refusal.specs.Numbers.{text_too_long, lent_too_short, unknown_identifier, wrong_character, data_too_short, identifier_repeated}
use Rattle.refusal.specs.Limits.{limit, most_fields}
use Rattle.refusal.specs.Among.{among}
use Rattle.refusal.proofs.Tests.{by_test}
use Rattle.refusal.proofs.Binds.{never, not_refused, same_good, clash}
use Rattle.std.specs.Prelude.{Some}
use Rattle.dictionary.specs.Dictionary.{Dictionary, Numbered, allowed, find, row_at, listed, distinct, rows_of}
use Rattle.dictionary.specs.Rows.{row, rows}
use Rattle.dictionary.specs.declared.Kind.{Kind}
use Rattle.dictionary.specs.declared.Kind.TheVariants.{Numeric, Alphabetic}
use Rattle.dictionary.specs.declared.Row.{Row}
use Rattle.dictionary.specs.declared.Field.{Field}
use Rattle.dictionary.proofs.Rows.{rows_distinct}
use Rattle.base32.specs.Base32.{bytes}
use Rattle.header.specs.Header.{size, number, part, parts, known, read_header}
use Rattle.text.specs.Zone.{does, read_data, zone}
use Rattle.text.specs.Signature.{signature_chars, read_signature}
use Rattle.text.specs.Text.{at_mark, Received, reading, read_text, signed_length, data_of}
use Rattle.laws.specs.Keeps.{Names, Holds, Extends, SameField, SameFields, SameReading, Stands, Keeps, NewRowsKeep}
use Rattle.laws.proofs.Rows.{find_row}
use Rattle.laws.proofs.Covers.{Is, find_is}

-- what is accepted is accepted again, as the same; a refusal stays unless it was 16
abbrev pub Kept : {A B : Type 0} → (A → B → Type 0) → Answer A → Answer B → Type 0
Kept {B} R (good a) y = (b : B) × (y ≡ good b) × R a b
Kept R (refused k p) y = (k ≡ unknown_identifier) ⊎ (y ≡ refused k p)

-- line by line: an answer that is kept, one that is the same, and a check with the same outcome
kept_bind : {A B C D : Type 0} (R : A → B → Type 0) (S : C → D → Type 0) (x : Answer A) (y : Answer B) (f : A → Answer C) (g : B → Answer D)
    → Kept R x y → ((a : A) (b : B) → R a b → Kept S (f a) (g b)) → Kept S (x >>= f) (y >>= g)
kept_bind R S (good a) y f g k h = rw k.1 (h a k.0 k.2)
kept_bind R S (refused n p) y f g (inl q) h = inl q
kept_bind R S (refused n p) y f g (inr q) h = inr (rw q)

kept_same : {A C D : Type 0} (S : C → D → Type 0) (x : Answer A) (f : A → Answer C) (g : A → Answer D) → ((a : A) → Kept S (f a) (g a))
    → Kept S (x >>= f) (x >>= g)
kept_same S (good a) f g h = h a
kept_same S (refused n p) f g h = inr refl

kept_check : {C D : Type 0} (S : C → D → Type 0) (a b : Bool) (k p : ℕ) (x : Answer C) (y : Answer D) → a ≡ b → Kept S x y
    → Kept S (check a k p >> x) (check b k p >> y)
kept_check S true true k p x y e h = h
kept_check S true false k p x y e h = clash (sym e)
kept_check S false true k p x y e h = clash e
kept_check S false false k p x y e h = inr refl

-- a search refuses with 16 alone
find_16 : (a b k p : ℕ) (d : Dictionary) (n q : ℕ) → find a b k p d ≡ refused n q → n ≡ unknown_identifier
unfolding find
find_16 a b k p [] n q e = cc
find_16 a b k p (r ∷ d) n q e = by_test (eqb a r.first && eqb b r.second) _ _ _ e (λ _ e. cc) λ _ e. find_16 a b (suc k) p d n q e

-- one row has one number
one_number : (d : Dictionary) (n m : ℕ) (r : Row) → distinct d ≡ true → Names d n r → Names d m r → n ≡ m
one_number d n m r s e f =
    let a = find_row d 0 0 n 0 r s e in
    let b = find_row d 0 0 m 0 r s f in
    let q : 0 + n ≡ 0 + m = ap (λ (x : Numbered). x.number) (same_good (sym a ∙ b)) in
    omega arith

module _ (d e : Dictionary) (dd : distinct d ≡ true) (de : distinct e ≡ true) (ext : Extends d e) where
  -- a row is named by a field under both dictionaries or under neither
  named_same : (n m : ℕ) (r : Row) (f g : Field) → Names d n r → Names e m r → SameField d e f g → eqb n f.row ≡ eqb m g.row
  named_same n m r f g rd re s = go (eqb n f.row) refl
    where
      to : n ≡ f.row → m ≡ g.row
      to q = one_number e m g.row r de re (s.second ∙ sym s.first ∙ (rw q at rd))

      from : m ≡ g.row → n ≡ f.row
      from q = one_number d n f.row r dd rd (s.first ∙ sym s.second ∙ (rw q at re))

      go : (b : Bool) → eqb n f.row ≡ b → b ≡ eqb m g.row
      go true q = sym (eq-eqb m g.row (to (eqb-true n f.row q)))
      go false q = sym (ne_eqb m g.row (λ z. eqb-false n f.row q (from z)))

  -- so it is repeated under both or under neither
  among_same : (n m : ℕ) (r : Row) (l k : List Field) → Names d n r → Names e m r → SameFields d e l k → among n (rows_of l) ≡ among m (rows_of k)
  unfolding among
  among_same n m r [] [] rd re s = refl
  among_same n m r [] (g ∷ k) rd re s = absurd s
  among_same n m r (f ∷ l) [] rd re s = absurd s
  among_same n m r (f ∷ l) (g ∷ k) rd re s = rw (named_same n m r f g rd re s.0, among_same n m r l k rd re s.1)

  same_snoc : (l k : List Field) (f g : Field) → SameFields d e l k → SameField d e f g → SameFields d e (l ++ (f ∷ [])) (k ++ (g ∷ []))
  same_snoc [] [] f g s h = (h, tt)
  same_snoc [] (y ∷ k) f g s h = absurd s
  same_snoc (x ∷ l) [] f g s h = absurd s
  same_snoc (x ∷ l) (y ∷ k) f g s h = (s.0, same_snoc l k f g s.1 h)

  -- THE SEARCH: the same row, at its number in each dictionary
  abbrev SameRow : Numbered → Numbered → Type 0
  SameRow x y = (x.row ≡ y.row) × Names d x.number x.row × Names e y.number x.row

  kept_find : (a b p : ℕ) → Kept SameRow (find a b 0 p d) (find a b 0 p e)
  kept_find a b p = go (find a b 0 p d) refl
    where
      on : (x : Numbered) → Is a b 0 d x → Names d x.number x.row → Holds e x.row → Kept SameRow (good x) (find a b 0 p e)
      on x is rd h = (
        record { number = 0 + h.0; row = x.row },
        rw (is.first, is.second) (find_row e 0 p h.0 0 x.row de h.1),
        (refl, rd, let q : 0 + h.0 ≡ h.0 = omega arith in rw q h.1),
      )

      row_is : (x : Numbered) → Is a b 0 d x → Names d x.number x.row
      row_is x is = let q : x.number ≡ is.at = omega (arith, is.number) in rw q (is.row 0)

      go : (y : Answer Numbered) → find a b 0 p d ≡ y → Kept SameRow y (find a b 0 p e)
      go (good x) q = let is = find_is a b 0 p d x q in let rd = row_is x is in on x is rd (ext.holds x.row (x.number, rd))
      go (refused n r) q = inl (find_16 a b 0 p d n r q)

  -- a row that is not repeated is read on, under both
  kept_new : (x y : Numbered) (before before' : List Field) (p : ℕ) (u v : Answer (List Field)) → SameRow x y → SameFields d e before before'
      → Kept (SameFields d e) u v
      → Kept (SameFields d e)
      (check (not (among x.number (rows_of before))) identifier_repeated p >> u)
      (check (not (among y.number (rows_of before'))) identifier_repeated p >> v)
  kept_new x y before before' p u v r s h =
      kept_check (SameFields d e) (not (among x.number (rows_of before))) (not (among y.number (rows_of before'))) identifier_repeated p u v
      (ap not (among_same x.number y.number x.row before before' r.1 r.2 s)) h

  -- THE ZONE, by induction on the number of fields still allowed
  zone_keeps : (n : ℕ) (before before' : List Field) (p : ℕ) (l : List ℕ) → SameFields d e before before'
      → Kept (SameFields d e) (zone d n before p l) (zone e n before' p l)
  unfolding zone
  zone_keeps zero before before' p [] s = (before', refl, s)
  zone_keeps zero before before' p (c ∷ []) s = inr refl
  zone_keeps zero before before' p (a ∷ b ∷ l) s =
      kept_bind SameRow (SameFields d e) (find a b 0 p d) (find a b 0 p e) _ _ (kept_find a b p) λ x y r.
      kept_new x y before before' p _ _ r s (inr refl)
  zone_keeps (suc n) before before' p [] s = (before', refl, s)
  zone_keeps (suc n) before before' p (c ∷ []) s = inr refl
  zone_keeps (suc n) before before' p (a ∷ b ∷ l) s =
      kept_bind SameRow (SameFields d e) (find a b 0 p d) (find a b 0 p e) _ _ (kept_find a b p) λ x y r.
      kept_new x y before before' p _ _ r s
      (rw (← r.0) (kept_same (SameFields d e) (read_data x.row p [] (p + 2) l) _ _ λ z.
      kept_check (SameFields d e) (leb x.row.least (length z.chars)) (leb x.row.least (length z.chars)) data_too_short p _ _ refl
      (zone_keeps n _ _ z.next z.rest
      (same_snoc before before' _ _ s (record { row = x.row; first = r.1; second = r.2; start = refl; length = refl; cut = refl })))))

  -- THE WHOLE TEXT
  reading_keeps : (t : List ℕ) → Kept (SameReading d e) (reading d t) (reading e t)
  unfolding reading
  reading_keeps t =
      let S = SameReading d e in
      kept_same S (read_header t) _ _ λ x.
      kept_same S (at_mark (size x.version) (drop (size x.version) t)) _ _ λ h.
      kept_bind (SameFields d e) S (zone d most_fields [] (size x.version) h.before) (zone e most_fields [] (size x.version) h.before) _ _
      (zone_keeps most_fields [] [] (size x.version) h.before tt) λ fs gs same.
      kept_same S (read_signature x.version (suc (size x.version + length h.before)) h.behind) _ _ λ signature.
      (_, refl, record { header = refl; fields = same; signature = refl; signed = refl })

  text_keeps : (room : ℕ) (t : List ℕ) → Kept (SameReading d e) (read_text d room t) (read_text e room t)
  unfolding read_text
  text_keeps room t =
      let S = SameReading d e in
      kept_check S (leb (length t) limit) (leb (length t) limit) text_too_long limit _ _ refl
      (kept_check S (leb most_fields room) (leb most_fields room) lent_too_short 0 _ _ refl (reading_keeps t))

  -- in the statement's words
  in_words : (old new : Answer Received) → Kept (SameReading d e) old new → Stands d e old new
  in_words (good a) new k = record { accepted = λ x q. rw (← same_good q) k; refused = λ n p q. not_refused q }
  in_words (refused m o) new k = record { accepted = λ x q. never q; refused = λ n p q other. go n p q other k }
    where
      go : (n p : ℕ) → ◌≡◌ {A = Answer Received} (refused m o) (refused n p) → (n ≡ unknown_identifier → ⊥)
          → (m ≡ unknown_identifier) ⊎ (new ≡ refused m o) → new ≡ refused n p
      go n p q other (inl h) = let z : n ≡ unknown_identifier = cc in absurd (other z)
      go n p q other (inr h) = h ∙ q

-- NEW ROWS DO NOT DISTURB OLD READINGS
pub keeps : NewRowsKeep
keeps d e dd de ext room t = in_words d e dd de ext (read_text d room t) (read_text e room t) (text_keeps d e dd de ext room t)

-- AND THE OTHER WAY ROUND: a refusal under the second dictionary was the same under the first, or an identifier was unknown there
pub none_new : (d e : Dictionary) → Keeps d e → (room : ℕ) (t : List ℕ) (n p : ℕ) → read_text e room t ≡ refused n p
    → (read_text d room t ≡ refused n p) ⊎ ((q : ℕ) × (read_text d room t ≡ refused unknown_identifier q))
none_new d e k room t n p h = go (read_text d room t) refl
  where
    on : (m q : ℕ) → read_text d room t ≡ refused m q → (b : Bool) → eqb m unknown_identifier ≡ b
        → (read_text d room t ≡ refused n p) ⊎ ((q : ℕ) × (read_text d room t ≡ refused unknown_identifier q))
    on m q z true w = inr (q, z ∙ ap (λ m. refused m q) (eqb-true m unknown_identifier w))
    on m q z false w = inl (z ∙ (sym ((k room t).refused m q z (eqb-false m unknown_identifier w)) ∙ h))

    go : (y : Answer Received) → read_text d room t ≡ y → (read_text d room t ≡ refused n p) ⊎ ((q : ℕ) × (read_text d room t ≡ refused unknown_identifier q))
    go (good x) z = let a = (k room t).accepted x z in not_refused (sym a.1 ∙ h)
    go (refused m q) z = on m q z (eqb m unknown_identifier) refl

-- the same data, and the same signed part
pub same_data : (d e : Dictionary) (f g : Field) (t : List ℕ) → SameField d e f g → data_of t f ≡ data_of t g
same_data d e f g t s = ap (λ n. take n (drop f.start t)) s.length ∙ ap (λ p. take g.length (drop p t)) s.start

pub same_signed : (d e : Dictionary) → Keeps d e → (room : ℕ) (t : List ℕ) (x : Received) → read_text d room t ≡ good x
    → signed_length (read_text e room t) ≡ signed_length (read_text d room t)
same_signed d e k room t x h =
    let a = (k room t).accepted x h in
    ap signed_length a.1 ∙ (sym a.2.signed ∙ sym (ap signed_length h))

-- A NEW TABLE AT HAND extends the old one when each of the old rows, looked for in the new one by its identifier, is found unchanged. That is computed.
abbrev pub found_row : Answer Numbered → Answer Row
found_row (good x) = good x.row
found_row (refused k p) = refused k p

abbrev pub row_in : Dictionary → Row → Answer Row
row_in e r = found_row (find r.first r.second 0 0 e)

abbrev pub AllFound : Dictionary → Dictionary → Type 0
AllFound d e = map (row_in e) d ≡ map good d

each : (e d : Dictionary) (n : ℕ) (r : Row) → AllFound d e → Names d n r → row_in e r ≡ good r
unfolding row_at
each e [] n r a h = never h
each e (q ∷ d) zero r a h = let z = same_good h in rw (← z) (cc)
each e (q ∷ d) (suc n) r a h = each e d n r (cc) h

stands_in : (e : Dictionary) (r : Row) (y : Answer Numbered) → find r.first r.second 0 0 e ≡ y → found_row y ≡ good r → Holds e r
stands_in e r (good x) q h = let is = find_is r.first r.second 0 0 e x q in (is.at, is.row 0 ∙ h)
stands_in e r (refused k p) q h = never h

pub by_table : (d e : Dictionary) → AllFound d e → Extends d e
by_table d e a = record { holds = λ r h. stands_in e r (find r.first r.second 0 0 e) refl (each e d h.0 r a h.1) }

-- ROWS ADDED BEHIND keep the numbers of those before them
behind : (d more : Dictionary) (n : ℕ) (r : Row) → Names d n r → Names (d ++ more) n r
unfolding row_at
behind [] more n r e = never e
behind (q ∷ d) more zero r e = e
behind (q ∷ d) more (suc n) r e = behind d more n r e

-- OUR OWN ROWS, and any more among them or behind them
pub ours_keep : (e : Dictionary) → distinct e ≡ true → Extends rows e → Keeps rows e
ours_keep e s ext = keeps rows e rows_distinct s ext

pub rows_keep : (more : Dictionary) → distinct (rows ++ more) ≡ true → Keeps rows (rows ++ more)
rows_keep more s = ours_keep (rows ++ more) s (record { holds = λ r h. (h.0, behind rows more h.0 r h.1) })

-- so the records are the very same
same_field : (f g : Field) → f.row ≡ g.row → f.start ≡ g.start → f.length ≡ g.length → f.cut ≡ g.cut → f ≡ g
same_field f g a b c h =
    ap (λ n. record { row = n; start = f.start; length = f.length; cut = f.cut }) a
    ∙ (ap (λ n. record { row = g.row; start = n; length = f.length; cut = f.cut }) b
    ∙ (ap (λ n. record { row = g.row; start = g.start; length = n; cut = f.cut }) c
    ∙ ap (λ x. record { row = g.row; start = g.start; length = g.length; cut = x }) h))

same_fields : (d more : Dictionary) → distinct (d ++ more) ≡ true → (l k : List Field) → SameFields d (d ++ more) l k → l ≡ k
same_fields d more u [] [] s = refl
same_fields d more u [] (g ∷ k) s = absurd s
same_fields d more u (f ∷ l) [] s = absurd s
same_fields d more u (f ∷ l) (g ∷ k) s =
    let h = s.0 in
    let n = one_number (d ++ more) f.row g.row h.row u (behind d more f.row h.row h.first) h.second in
    ap (λ x. x ∷ l) (same_field f g n h.start h.length h.cut) ∙ ap (λ m. g ∷ m) (same_fields d more u l k s.1)

same_reading : (d more : Dictionary) → distinct (d ++ more) ≡ true → (x y : Received) → SameReading d (d ++ more) x y → x ≡ y
same_reading d more u x y s =
    let fields = same_fields d more u x.message.fields y.message.fields s.fields in
    ap (λ h. record { message = record { header = h; fields = x.message.fields; signature = x.message.signature }; signed = x.signed }) s.header
    ∙ (ap (λ l. record { message = record { header = y.message.header; fields = l; signature = x.message.signature }; signed = x.signed }) fields
    ∙ (ap (λ l. record { message = record { header = y.message.header; fields = y.message.fields; signature = l }; signed = x.signed }) s.signature
    ∙ ap (λ n. record { message = record { header = y.message.header; fields = y.message.fields; signature = y.message.signature }; signed = n }) s.signed))

pub rows_same : (more : Dictionary) → distinct (rows ++ more) ≡ true → (room : ℕ) (t : List ℕ) (x : Received) → read_text rows room t ≡ good x
    → read_text (rows ++ more) room t ≡ good x
rows_same more s room t x e =
    let a = (rows_keep more s room t).accepted x e in
    a.1 ∙ ap good (sym (same_reading rows more s x a.0 a.2))

-- a row for the identifier ZZ, of one digit or of one letter
abbrev zz : Kind → Row
zz k = row 90 90 1 (Some 1) k

-- A ROW PUT IN AMONG OUR OWN, so that most of them change their numbers: all that is to be shown is computed
abbrev among_them : Dictionary
among_them = take 14 rows ++ (zz Numeric ∷ drop 14 rows)

pub put_in_keeps : Keeps rows among_them
unfolding rows find distinct listed
put_in_keeps = ours_keep among_them refl (by_table rows among_them refl)

-- ONLY A 16 CHANGES, AND IT DOES: a text with the identifier ZZ and the data 7, whose signature is 64 zeros, under our own rows and with
-- a row for ZZ behind them: accepted with one digit, another refusal with one letter
abbrev text : List ℕ
text =
    (68 ∷ 67 ∷ 48 ∷ 50 ∷ 70 ∷ 82 ∷ 48 ∷ 49 ∷ 49 ∷ 50 ∷ 48 ∷ 52 ∷ 49 ∷ 48 ∷ 51 ∷ 68 ∷ 49 ∷ 48 ∷ 51 ∷ 69 ∷ 48 ∷ 49 ∷ 90 ∷ 90 ∷ 55 ∷ 31 ∷ [])
    ++ replicate 103 65

abbrev read : Received
read = record {
  message = record {
    header = record {
      version = 48 ∷ 50 ∷ [];
      authority = 70 ∷ 82 ∷ 48 ∷ 49 ∷ [];
      certificate = 49 ∷ 50 ∷ 48 ∷ 52 ∷ [];
      issue_day = 4157;
      signing_day = 4158;
      doctype = 48 ∷ 49 ∷ [];
      perimeter = 0 ∷ 0 ∷ [];
      country = 0 ∷ 0 ∷ [];
    };
    fields = record { row = 110; start = 24; length = 1; cut = false } ∷ [];
    signature = replicate 64 0;
  };
  signed = 25;
}

pub then_known : map (λ d. read_text d most_fields text) (rows ∷ (rows ++ (zz Numeric ∷ [])) ∷ (rows ++ (zz Alphabetic ∷ [])) ∷ [])
    ≡ refused unknown_identifier 22 ∷ good read ∷ refused wrong_character 24 ∷ []
unfolding rows read_text reading read_header known parts part number at_mark zone find read_data does among allowed read_signature signature_chars bytes
then_known = refl
