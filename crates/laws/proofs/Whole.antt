-- The whole text, both ways: header, zone, mark and signature put together. An accepted text is its header, its fields side by side,
-- 31 and its signature; a written text holds no 31 before the mark, so it is cut where it was joined.
-- Assumes nothing.
use Prim.Native.Nat.{ℕ, suc, ◌+◌, ◌≤◌}
use mathlib.Core.Bool.{Bool, true, false}
use mathlib.Core.List.{List, [], ◌∷◌, ◌++◌}
use mathlib.Core.Path.{◌≡◌, refl, ap, sym, subst, ◌∙◌}
use native.Mathlib.Omega.{arith}
use lib.Dec.{leb, eqb}
use lib.ListN.{length, get_or, drop, length-append}
use lib.Seq.{drop_at}
use borrow.Author.Tests.{leb-true, le-leb, eqb-true, ne_eqb}
use Rattle.refusal.specs.Pick.{pick}
use Rattle.refusal.specs.Answers.{Answer, good, refused}
use Rattle.refusal.specs.Numbers.{text_too_long, lent_too_short, too_many_fields}
use Rattle.refusal.specs.Limits.{limit, most_fields}
use Rattle.refusal.proofs.Tests.{by_test}
use Rattle.refusal.proofs.Binds.{never, same_good, by_bind, by_check, by_and}
use Rattle.dictionary.specs.Dictionary.{Dictionary, allowed, full, distinct}
use Rattle.dictionary.specs.declared.Row.{Row}
use Rattle.dictionary.specs.declared.Field.{Field}
use Rattle.header.specs.declared.Version.{Version}
use Rattle.header.specs.declared.Version.TheVariants.{V02, V03, V04}
use Rattle.header.specs.declared.Header.{Header}
use Rattle.text.specs.Zone.{zone}
use Rattle.header.specs.Header.{size, version_of, read_header, header_chars, write_header, Shaped, kept, kept_by, the_parts}
use Rattle.text.specs.Signature.{read_signature, write_signature}
use Rattle.text.specs.Text.{Message, Halves, further, at_mark, Received, reading, read_text, in_turn, ending, data_of, write_field, write_zone, writing, write_text, Admissible, SameMessage}
use Rattle.laws.proofs.Rows.{row_plain, allowed_plain}
use Rattle.laws.proofs.Back.{Admitted, admitted, ReadsBack, zone_back}
use Rattle.laws.proofs.Covers.{covers}
use Rattle.laws.proofs.Heads.{header_read, HeaderBack, header_back, header_again}
use Rattle.laws.proofs.Signatures.{signature_covers, signature_back}
use Rattle.dictionary.specs.inner.Lookup.{plain}
use Rattle.base32.specs.Base32.{Below}
use Rattle.laws.specs.Theorems.{Placed, Covering}

-- the mark
further_is : (c : ℕ) (l : List ℕ) (x : Answer Halves) (h : Halves) → further c x ≡ good h → ((g : Halves) → x ≡ good g → l ≡ g.before ++ (31 ∷ g.behind)) → c ∷ l ≡ h.before ++ (31 ∷ h.behind)
further_is c l (good g) h e k = rw (← same_good e) (ap (λ m. c ∷ m) (k g refl))
further_is c l (refused n p) h e k = never e

pub mark_is : (p : ℕ) (l : List ℕ) (h : Halves) → at_mark p l ≡ good h → l ≡ h.before ++ (31 ∷ h.behind)
unfolding at_mark
mark_is p [] h e = never e
mark_is p (c ∷ l) h e =
    by_test (eqb c 31) _ _ _ e (λ t q. rw (← same_good q, eqb-true c 31 t)) λ t q. further_is c l (at_mark (suc p) l) h q (mark_is (suc p) l)

module _ (d : Dictionary) (t : List ℕ) where
  pub covering : (x : Received) → reading d t ≡ good x → Covering d t x
  unfolding reading
  covering x e =
      by_bind (read_header t) _ e λ y ey e.
      by_bind (at_mark (size y.version) (drop (size y.version) t)) _ e λ h em e.
      by_bind (zone d most_fields [] (size y.version) h.before) _ e λ fields ez e.
      by_bind (read_signature y.version (suc (size y.version + length h.before)) h.behind) _ e λ signature es e.
      let hc = header_read t y ey in
      let md = mark_is (size y.version) (drop (size y.version) t) h em in
      let wh : t ≡ header_chars y.version y.header ++ (h.before ++ (31 ∷ h.behind)) = hc.stands ∙ ap (λ m. header_chars y.version y.header ++ m) md in
      let c = covers d t most_fields [] 0 (size y.version) h.before fields ez (header_chars y.version y.header) (31 ∷ h.behind) hc.long wh in
      rw (← same_good e) (record {
        header = header_chars y.version y.header;
        fields = h.before;
        signature = h.behind;
        few = rw c.all c.few;
        header_is = hc.written;
        fields_are = rw c.all c.written;
        places = subst (λ p. Placed d t p fields (size y.version + length h.before)) (sym hc.long) (rw c.all c.placed);
        signature_is = signature_covers y.version _ h.behind signature es;
        whole = wh;
        signed = omega (arith, length-append (header_chars y.version y.header) h.before, hc.long);
      })

  -- so writing what was read gives the text again
  pub text_covers : (x : Received) → reading d t ≡ good x → writing d x.message t ≡ good t
  unfolding writing
  text_covers x e =
      let c = covering x e in
      rw (le-leb _ _ c.few, c.header_is, c.fields_are, c.signature_is) (ap good (sym c.whole))

  pub read_covers : (room : ℕ) (x : Received) → read_text d room t ≡ good x → (out : ℕ) → length t ≤ out → write_text d x.message t out ≡ good t
  unfolding read_text write_text
  read_covers room x e out fits =
      by_check (leb (length t) limit) text_too_long limit _ e λ l e.
      by_check (leb most_fields room) lent_too_short 0 _ e λ _ e.
      rw (text_covers x e, l, le-leb _ _ fits)

-- AND BACK. What was written before the mark holds no mark
abbrev Free : List ℕ → Type 0
Free [] = Unit {0}
Free (c ∷ l) = (eqb c 31 ≡ false) × Free l

free_append : (l m : List ℕ) → Free l → Free m → Free (l ++ m)
free_append [] m f g = g
free_append (c ∷ l) m f g = (f.0, free_append l m f.1 g)

no_mark : (c : ℕ) → 32 ≤ c → eqb c 31 ≡ false
no_mark c h = ne_eqb c 31 (λ q. omega arith)

turn_free : (r : Row) (l chars : List ℕ) → in_turn r chars l ≡ true → Free l
unfolding in_turn
turn_free r [] chars e = tt
turn_free r (c ∷ l) chars e = by_and (allowed r chars c) (in_turn r (chars ++ (c ∷ [])) l) e λ a t. (no_mark c (allowed_plain r chars c a), turn_free r l (chars ++ (c ∷ [])) t)

ending_free : (r : Row) (chars : List ℕ) (cut : Bool) → Free (ending r chars cut)
ending_free r chars true = (refl, tt)
ending_free r chars false = go (full r chars)
  where
    go : (b : Bool) → Free (pick b [] (29 ∷ []))
    go true = tt
    go false = (refl, tt)

zone_free : (d : Dictionary) (source : List ℕ) (fs before : List Field) (i : ℕ) (l : List ℕ) → plain d ≡ true → write_zone d source before i fs ≡ good l → Free l
unfolding write_zone
zone_free d source [] before i l pd e = rw (← same_good e) tt
zone_free d source (f ∷ fs) before i l pd e =
    by_bind (write_field d source before i f) _ e λ x ex e.
    by_bind (write_zone d source (before ++ (f ∷ [])) (suc i) fs) _ e λ y ey e.
    rw (← same_good e) (free_append x y (one x (admitted d source before i f x ex)) (zone_free d source fs (before ++ (f ∷ [])) (suc i) y pd ey))
  where
    one : (x : List ℕ) → Admitted d source before f x → Free x
    one x a =
        let q = row_plain d f.row 0 a.row pd a.found in
        rw a.is (no_mark a.row.first q.0, (no_mark a.row.second q.1, free_append (data_of source f) (ending a.row (data_of source f) f.cut) (turn_free a.row (data_of source f) [] a.turn) (ending_free a.row (data_of source f) f.cut)))

mark_back : (l m : List ℕ) (p : ℕ) → Free l → at_mark p (l ++ (31 ∷ m)) ≡ good (record { before = l; behind = m })
unfolding at_mark
mark_back [] m p f = refl
mark_back (c ∷ l) m p f = rw (f.0, mark_back l m (suc p) f.1)

-- what the version lacks is lacking once only
kept_twice : (v : Version) (h : Header) → kept v (kept v h) ≡ kept v h
kept_twice V02 h = refl
kept_twice V03 h = refl
kept_twice V04 h = refl

same_parts : (v : Version) (h : Header) → version_of (get_or h.version 0 0) (get_or h.version 1 0) ≡ good v → the_parts (kept v h) ≡ the_parts h
same_parts v h e = ap (λ a. kept_by a (kept v h)) e ∙ kept_twice v h ∙ sym (ap (λ a. kept_by a h) e)

-- what is to be shown
pub record ReadAgain (d : Dictionary) (m : Message) (source t : List ℕ) : Type 0 where
  pub result : Received
  pub read : reading d t ≡ good result
  pub same : SameMessage result.message t m source

module _ (d : Dictionary) (dd : distinct d ≡ true) (pd : plain d ≡ true) (m : Message) (source : List ℕ) where
  again : (z s head : List ℕ) → (b : HeaderBack m.header head) → Free z → ReadsBack d most_fields source m.fields (head ++ (z ++ (31 ∷ s))) (size b.version) z [] → ((v : Version) (p : ℕ) → read_signature v p s ≡ good m.signature) → ReadAgain d m source (head ++ (z ++ (31 ∷ s)))
  unfolding reading
  again z s head b f r sig =
      record {
        result = record { message = record { header = kept b.version m.header; fields = r.new; signature = m.signature }; signed = size b.version + length z };
        read = rw (
          header_again m.header head (z ++ (31 ∷ s)) b,
          drop_at head (z ++ (31 ∷ s)) (size b.version) b.long,
          mark_back z s (size b.version) f,
          r.read,
          sig b.version (suc (size b.version + length z)),
        );
        same = record { header = same_parts b.version m.header b.known; fields = r.same; signature = refl };
      }

  pub text_back : Shaped m.header → Below 256 m.signature → (t : List ℕ) → writing d m source ≡ good t → ReadAgain d m source t
  unfolding writing
  text_back sh small t e =
      by_check (leb (length m.fields) most_fields) too_many_fields most_fields _ e λ few e.
      by_bind (write_header m.header) _ e λ head eh e.
      by_bind (write_zone d source [] 0 m.fields) _ e λ z ez e.
      by_bind (write_signature m.signature) _ e λ s es e.
      let b = header_back m.header head sh eh in
      rw (← same_good e) (again z s head b (zone_free d source m.fields [] 0 z pd ez)
      (zone_back d dd pd source (head ++ (z ++ (31 ∷ s))) m.fields [] [] 0 most_fields (size b.version) z ez (leb-true _ _ few) refl head (31 ∷ s) b.long refl)
      (λ v p. signature_back v p s m.signature small es))

  -- any room at which it is written is room enough
  pub admissible : (room : ℕ) (t : List ℕ) → write_text d m source room ≡ good t → Admissible d m source t
  unfolding write_text
  admissible room t e =
      by_bind (writing d m source) _ e λ u eu e.
      by_check (leb (length u) limit) text_too_long limit _ e λ l e.
      by_check (leb (length u) room) lent_too_short 0 _ e λ _ e.
      record { written = rw (eu, l) e }

  -- READING WHAT WAS WRITTEN from an admissible message gives the same message again
  pub write_back : Shaped m.header → Below 256 m.signature → (t : List ℕ) → Admissible d m source t → (list : ℕ) → most_fields ≤ list
      → (x : Received) × (read_text d list t ≡ good x) × SameMessage x.message t m source
  unfolding write_text read_text
  write_back sh small t a list h =
      by_bind (writing d m source) _ a.written λ u eu e.
      by_check (leb (length u) limit) text_too_long limit _ e λ l e.
      by_check (leb (length u) limit) lent_too_short 0 _ e λ _ e.
      let r = text_back sh small u eu in
      rw (← same_good e) (r.result, rw (l, le-leb _ _ h) r.read, r.same)
