-- The zone: reading what was written gives the fields again, but for where they start. By induction on the records: what the writer's
-- acceptance says of one record is what the reader asks of its characters, and nothing that follows is taken for a mark.
-- Assumes nothing.
use Prim.Native.Nat.{ℕ, zero, suc, ◌+◌, ◌≤◌}
use mathlib.Core.Bool.{Bool, true, false, not, ◌&&◌}
use mathlib.Core.List.{List, [], ◌∷◌, ◌++◌, append_assoc, append-nil}
use mathlib.Core.Path.{◌≡◌, refl, ap, sym, ◌∙◌}
use native.Mathlib.Omega.{arith}
use lib.Dec.{leb, eqb}
use lib.ListN.{length, take, drop, length-append, length-drop}
use lib.Seq.{length-take-le}
use borrow.Author.Tests.{leb-true, le-leb, ne_eqb, not-true}
use Rattle.refusal.specs.Answers.{good}
use Rattle.refusal.specs.Numbers.{bad_record, identifier_repeated, fixed_cut, data_too_long, wrong_character, data_too_short}
use Rattle.refusal.proofs.Binds.{never, same_good, by_bind, by_check, by_and, clash}
use Rattle.refusal.specs.Among.{among}
use Rattle.dictionary.specs.Dictionary.{Dictionary, allowed, fixed, full, row_at, rows_of, distinct}
use Rattle.dictionary.specs.declared.Row.{Row}
use Rattle.dictionary.specs.declared.Field.{Field}
use Rattle.text.specs.Zone.{does, Piece, on_does, read_data, zone}
use Rattle.text.specs.Text.{within, in_turn, ending, spelled, data_of, entries, write_field, write_zone, write_data}
use Rattle.laws.proofs.Rows.{find_row, row_plain, allowed_plain, fixed_full, not_yet, rows_snoc}
use Rattle.laws.proofs.Covers.{part_at}
use Rattle.dictionary.specs.inner.Lookup.{plain}

-- nothing that would be taken for a mark stands at the front
abbrev pub NoMark : List ℕ → Type 0
NoMark [] = Unit {0}
NoMark (c ∷ l) = eqb c 30 ≡ false

-- the piece that is read
abbrev pub piece : Row → (chars : List ℕ) → (cut : Bool) → (p : ℕ) → (new rest : List ℕ) → Piece
piece r chars cut p new rest = record { chars = chars ++ new; cut = cut; next = p + (length new + length (ending r (chars ++ new) cut)); rest = rest }

module _ (r : Row) (at : ℕ) (rest : List ℕ) (nm : NoMark rest) where
  -- at the end of the data
  over_cut : (chars : List ℕ) (p : ℕ) → fixed r ≡ false → read_data r at chars p (30 ∷ rest) ≡ good (record { chars = chars; cut = true; next = suc p; rest = rest })
  unfolding read_data does
  over_cut chars p f = go (full r chars) refl
    where
      go : (b : Bool) → full r chars ≡ b → read_data r at chars p (30 ∷ rest) ≡ good (record { chars = chars; cut = true; next = suc p; rest = rest })
      go true e = rw (e, f)
      go false e = rw (e, f)

  over_full : (l : List ℕ) → NoMark l → (chars : List ℕ) (p : ℕ) → full r chars ≡ true → read_data r at chars p l ≡ good (record { chars = chars; cut = false; next = p; rest = l })
  unfolding read_data does
  over_full [] m chars p f = rw f
  over_full (c ∷ l) m chars p f = go (fixed r) refl
    where
      go : (b : Bool) → fixed r ≡ b → read_data r at chars p (c ∷ l) ≡ good (record { chars = chars; cut = false; next = p; rest = c ∷ l })
      go true e = rw (f, e)
      go false e = rw (f, e, m)

  over_end : (chars : List ℕ) (p : ℕ) → full r chars ≡ false → fixed r ≡ false → read_data r at chars p (29 ∷ rest) ≡ good (record { chars = chars; cut = false; next = suc p; rest = rest })
  unfolding read_data does
  over_end chars p f g = rw (f, g)

  over : (chars : List ℕ) (cut : Bool) (p : ℕ) → (cut && fixed r) ≡ false → (fixed r ≡ true → full r chars ≡ true)
      → read_data r at chars p (ending r chars cut ++ rest) ≡ good (record { chars = chars; cut = cut; next = p + length (ending r chars cut); rest = rest })
  over chars true p m f = let q : p + 1 ≡ suc p = omega arith in rw q (over_cut chars p m)
  over chars false p m f = go (full r chars) refl (fixed r) refl
    where
      go : (b : Bool) → full r chars ≡ b → (b' : Bool) → fixed r ≡ b' → read_data r at chars p (ending r chars false ++ rest) ≡ good (record { chars = chars; cut = false; next = p + length (ending r chars false); rest = rest })
      go true e b' g = let q : p + 0 ≡ p = omega arith in rw (e, q) (over_full rest nm chars p e)
      go false e true g = clash (sym e ∙ f g)
      go false e false g = let q : p + 1 ≡ suc p = omega arith in rw (e, q) (over_end chars p e g)

  -- one more character
  on : (chars : List ℕ) (p c : ℕ) (l : List ℕ) → full r chars ≡ false → allowed r chars c ≡ true → read_data r at chars p (c ∷ l) ≡ read_data r at (chars ++ (c ∷ [])) (suc p) l
  unfolding read_data does
  on chars p c l f a = go (fixed r) refl
    where
      h : 32 ≤ c
      h = allowed_plain r chars c a

      go : (b : Bool) → fixed r ≡ b → on_does (does r chars c) chars c p l (read_data r at (chars ++ (c ∷ [])) (suc p) l) ≡ read_data r at (chars ++ (c ∷ [])) (suc p) l
      go true e = rw (f, e, a)
      go false e = rw (f, e, ne_eqb c 29 (λ q. omega (arith, h, q)), ne_eqb c 30 (λ q. omega (arith, h, q)), a)

  pub data_back : (new chars : List ℕ) (cut : Bool) (p : ℕ) → in_turn r chars new ≡ true → within r.greatest (length (chars ++ new)) ≡ true → (cut && fixed r) ≡ false → (fixed r ≡ true → full r (chars ++ new) ≡ true)
      → read_data r at chars p (new ++ (ending r (chars ++ new) cut ++ rest)) ≡ good (piece r chars cut p new rest)
  unfolding in_turn
  data_back [] chars cut p t w m f =
      let q : p + (0 + length (ending r chars cut)) ≡ p + length (ending r chars cut) = omega arith in
      rw (append-nil chars, q) (over chars cut p m (rw append-nil at f))
  data_back (c ∷ new) chars cut p t w m f = by_and (allowed r chars c) (in_turn r (chars ++ (c ∷ [])) new) t λ a t'.
      let z : (chars ++ (c ∷ [])) ++ new ≡ chars ++ (c ∷ new) = append_assoc chars (c ∷ []) new in
      let ih = data_back new (chars ++ (c ∷ [])) cut (suc p) t' (rw z w) m (rw z f) in
      let q : suc p + (length new + length (ending r (chars ++ (c ∷ new)) cut)) ≡ p + (suc (length new) + length (ending r (chars ++ (c ∷ new)) cut)) = omega arith in
      on chars p c (new ++ (ending r (chars ++ (c ∷ new)) cut ++ rest)) (not_yet r.greatest (length chars) (length (chars ++ (c ∷ new))) w (omega (arith, length-append chars (c ∷ new)))) a ∙ (rw (z, q) at ih)

-- what the writer's acceptance of one record says
pub record Admitted (d : Dictionary) (source : List ℕ) (before : List Field) (f : Field) (x : List ℕ) : Type 0 where
  pub row : Row
  pub found : row_at d f.row 0 ≡ good row
  pub long : length (data_of source f) ≡ f.length
  pub once : among f.row (rows_of before) ≡ false
  pub mark : (f.cut && fixed row) ≡ false
  pub limit : within row.greatest f.length ≡ true
  pub turn : in_turn row [] (data_of source f) ≡ true
  pub least : row.least ≤ f.length
  pub is : x ≡ spelled row (data_of source f) f.cut

-- the place of the record counts for the refusal alone
row_anywhere : (d : Dictionary) (n i j : ℕ) (r : Row) → row_at d n i ≡ good r → row_at d n j ≡ good r
unfolding row_at
row_anywhere [] n i j r e = never e
row_anywhere (q ∷ d) zero i j r e = e
row_anywhere (q ∷ d) (suc n) i j r e = row_anywhere d n i j r e

pub admitted : (d : Dictionary) (source : List ℕ) (before : List Field) (i : ℕ) (f : Field) (x : List ℕ) → write_field d source before i f ≡ good x → Admitted d source before f x
unfolding write_field write_data
admitted d source before i f x e =
    by_bind (row_at d f.row i) _ e λ r er e.
    by_check (leb (f.start + f.length) (length source)) bad_record i _ e λ fits e.
    by_check (not (among f.row (rows_of before))) identifier_repeated i _ e λ once e.
    by_check (not (f.cut && fixed r)) fixed_cut i _ e λ mark e.
    by_check (within r.greatest (length (data_of source f))) data_too_long i _ e λ limit e.
    by_check (in_turn r [] (data_of source f)) wrong_character i _ e λ turn e.
    by_check (leb r.least (length (data_of source f))) data_too_short i _ e λ least e.
    let h : f.start + f.length ≤ length source = leb-true _ _ fits in
    let long = length-take-le f.length (drop f.start source) (omega (arith, length-drop f.start source)) in
    record {
      row = r;
      found = row_anywhere d f.row i 0 r er;
      long = long;
      once = not-true _ once;
      mark = not-true _ mark;
      limit = ap (within r.greatest) (sym long) ∙ limit;
      turn = turn;
      least = omega (arith, long, leb-true r.least (length (data_of source f)) least);
      is = sym (same_good e);
    }

-- a zone that was written starts with no mark
plain_start : (c : ℕ) → 32 ≤ c → eqb c 30 ≡ false
plain_start c h = ne_eqb c 30 (λ q. omega arith)

written_start : (d : Dictionary) (source : List ℕ) (before : List Field) (i : ℕ) (fs : List Field) (y : List ℕ) → plain d ≡ true → write_zone d source before i fs ≡ good y → NoMark y
unfolding write_zone
written_start d source before i [] y pd e = rw (← same_good e) tt
written_start d source before i (f ∷ fs) y pd e =
    by_bind (write_field d source before i f) _ e λ x ex e.
    by_bind (write_zone d source (before ++ (f ∷ [])) (suc i) fs) _ e λ z _ e.
    go x z (admitted d source before i f x ex) (same_good e)
  where
    go : (x z : List ℕ) → Admitted d source before f x → x ++ z ≡ y → NoMark y
    go x z a q = rw (← q, a.is) (plain_start a.row.first (row_plain d f.row 0 a.row pd a.found).0)

-- what is to be shown: the zone reads as fields that are, but for where they start, those written
pub record ReadsBack (d : Dictionary) (n : ℕ) (source : List ℕ) (fs : List Field) (text : List ℕ) (p : ℕ) (l : List ℕ) (before : List Field) : Type 0 where
  pub new : List Field
  pub read : zone d n before p l ≡ good (before ++ new)
  pub same : entries text new ≡ entries source fs

module _ (d : Dictionary) (dd : distinct d ≡ true) (pd : plain d ≡ true) (source text : List ℕ) where
  nothing : (n : ℕ) (p : ℕ) (before : List Field) → ReadsBack d n source [] text p [] before
  unfolding zone entries
  nothing zero p before = record { new = []; read = ap good (sym (append-nil before)); same = refl }
  nothing (suc n) p before = record { new = []; read = ap good (sym (append-nil before)); same = refl }

  abbrev the : ℕ → Field → Field
  the p f = record { row = f.row; start = p + 2; length = f.length; cut = f.cut }

  -- the place behind the field
  abbrev behind : ℕ → Row → List ℕ → Bool → ℕ
  behind p r chars cut = p + 2 + (length chars + length (ending r chars cut))

  field_back : (n : ℕ) (f : Field) (written before : List Field) (p : ℕ) (x y : List ℕ) → (a : Admitted d source written f x) → rows_of before ≡ rows_of written → NoMark y
      → zone d (suc n) before p (x ++ y) ≡ zone d n (before ++ (the p f ∷ [])) (behind p a.row (data_of source f) f.cut) y
  unfolding zone
  field_back n f written before p x y a same nm =
      let w : within a.row.greatest (length (data_of source f)) ≡ true = rw a.long a.limit in
      let l : a.row.least ≤ length (data_of source f) = rw a.long a.least in
      rw (
        a.is,
        find_row d 0 p f.row 0 a.row dd a.found,
        zero_plus f.row,
        ap (among f.row) same ∙ a.once,
        append_assoc (data_of source f) (ending a.row (data_of source f) f.cut) y,
        data_back a.row p y nm (data_of source f) [] f.cut (p + 2) a.turn w a.mark (fixed_full a.row (length (data_of source f)) w l),
        le-leb _ _ l,
        a.long,
      )
    where
      zero_plus : (m : ℕ) → 0 + m ≡ m
      zero_plus m = omega arith

  -- the characters of a field in the text
  regroup : (pre chars e y post : List ℕ) (a b : ℕ) → pre ++ (((a ∷ b ∷ (chars ++ e)) ++ y) ++ post) ≡ (pre ++ (a ∷ b ∷ [])) ++ (chars ++ ((e ++ y) ++ post))
  regroup pre chars e y post a b =
      ap (λ z. pre ++ (a ∷ b ∷ z)) (ap (λ z. z ++ post) (append_assoc chars e y) ∙ append_assoc chars (e ++ y) post) ∙ sym (append_assoc pre (a ∷ b ∷ []) (chars ++ ((e ++ y) ++ post)))

  data_there : (f : Field) (written : List Field) (p : ℕ) (x y pre post : List ℕ) → (a : Admitted d source written f x) → length pre ≡ p → text ≡ pre ++ ((x ++ y) ++ post) → data_of text (the p f) ≡ data_of source f
  data_there f written p x y pre post a pl tl =
      let e = ending a.row (data_of source f) f.cut in
      let q : text ≡ (pre ++ (a.row.first ∷ a.row.second ∷ [])) ++ (data_of source f ++ ((e ++ y) ++ post)) =
      tl ∙ ap (λ z. pre ++ ((z ++ y) ++ post)) a.is ∙ regroup pre (data_of source f) e y post a.row.first a.row.second in
      ap (λ n. take n (drop (p + 2) text)) (sym a.long)
      ∙ part_at text (pre ++ (a.row.first ∷ a.row.second ∷ [])) (data_of source f) ((e ++ y) ++ post) (p + 2) q (omega (arith, length-append pre (a.row.first ∷ a.row.second ∷ []), pl))

  behind_is : (f : Field) (written : List Field) (p : ℕ) (x pre : List ℕ) → (a : Admitted d source written f x) → length pre ≡ p → length (pre ++ x) ≡ behind p a.row (data_of source f) f.cut
  behind_is f written p x pre a pl =
      omega (arith, length-append pre x, ap length a.is, length-append (data_of source f) (ending a.row (data_of source f) f.cut), pl)

  joined : (n : ℕ) (f : Field) (fs written before : List Field) (p : ℕ) (x y l pre post : List ℕ) → x ++ y ≡ l → (a : Admitted d source written f x) → rows_of before ≡ rows_of written → NoMark y → length pre ≡ p → text ≡ pre ++ (l ++ post)
      → ReadsBack d n source fs text (behind p a.row (data_of source f) f.cut) y (before ++ (the p f ∷ [])) → ReadsBack d (suc n) source (f ∷ fs) text p l before
  unfolding entries
  joined n f fs written before p x y l pre post xy a same nm pl tl b = record {
    new = the p f ∷ b.new;
    read = rw (← xy) (field_back n f written before p x y a same nm ∙ b.read ∙ ap good (append_assoc before (the p f ∷ []) b.new));
    same = rw (data_there f written p x y pre post a pl (rw xy tl), b.same);
  }

  pub zone_back : (fs written before : List Field) (i n p : ℕ) (l : List ℕ) → write_zone d source written i fs ≡ good l → length fs ≤ n → rows_of before ≡ rows_of written
      → (pre post : List ℕ) → length pre ≡ p → text ≡ pre ++ (l ++ post) → ReadsBack d n source fs text p l before
  unfolding write_zone
  zone_back [] written before i n p l e few same pre post pl tl = rw (← same_good e) (nothing n p before)
  zone_back (f ∷ fs) written before i zero p l e few same pre post pl tl = absurd (omega arith)
  zone_back (f ∷ fs) written before i (suc n) p l e few same pre post pl tl =
      by_bind (write_field d source written i f) _ e λ x ex e.
      by_bind (write_zone d source (written ++ (f ∷ [])) (suc i) fs) _ e λ y ey e.
      let a = admitted d source written i f x ex in
      let xy = same_good e in
      joined n f fs written before p x y l pre post xy a same (written_start d source (written ++ (f ∷ [])) (suc i) fs y pd ey) pl tl
      (zone_back fs (written ++ (f ∷ [])) (before ++ (the p f ∷ [])) (suc i) n (behind p a.row (data_of source f) f.cut) y ey (omega arith) (rows_snoc before written (the p f) f same refl)
      (pre ++ x) post (behind_is f written p x pre a pl) (tl ∙ ap (λ z. pre ++ (z ++ post)) (sym xy) ∙ ap (λ z. pre ++ z) (append_assoc x y post) ∙ sym (append_assoc pre x (y ++ post))))
