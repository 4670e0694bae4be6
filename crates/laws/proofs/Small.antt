-- EVERY WRITTEN TEXT HAS CHARACTERS BELOW 128, piece by piece: a header's parts are of its sets, identifiers and marks are small, data are of
-- the row's characters, and the signature is of the alphabet.
-- Assumes nothing.
use Prim.Native.Nat.{ℕ, zero, suc, ◌+◌, ◌/◌, ◌%◌, ◌<◌}
use mathlib.Core.Bool.{Bool, true, false, ◌&&◌}
use mathlib.Core.List.{List, [], ◌∷◌, ◌++◌, map}
use mathlib.Core.Path.{◌≡◌, refl, sym, subst}
use native.Mathlib.Omega.{arith}
use lib.Dec.{leb, ltb, eqb}
use lib.ListN.{length, get_or}
use borrow.Author.Tests.{leb-true, ltb-true, eqb-true}
use Rattle.refusal.specs.Pick.{pick}
use Rattle.refusal.specs.Answers.{good}
use Rattle.refusal.specs.Numbers.{text_too_long, lent_too_short, too_many_fields, wrong_header_character, wrong_perimeter, signature_length}
use Rattle.refusal.specs.Limits.{limit, most_fields}
use Rattle.refusal.proofs.Binds.{never, same_good, by_bind, by_check, by_and, by_or}
use Rattle.dictionary.specs.Dictionary.{Dictionary, in_kind, allowed, full, row_at}
use Rattle.dictionary.specs.Rows.{rows}
use Rattle.dictionary.specs.declared.Kind.{Kind}
use Rattle.dictionary.specs.declared.Kind.TheVariants.{Numeric, Alphabetic, Alphanumeric}
use Rattle.dictionary.specs.declared.Row.{Row}
use Rattle.dictionary.specs.declared.Field.{Field}
use Rattle.base32.specs.Base32.{in_alphabet, char_of, values, Below}
use Rattle.base32.proofs.RoundTrip.{values_below, value_char}
use Rattle.header.specs.declared.Version.{Version}
use Rattle.header.specs.declared.Version.TheVariants.{V02, V03, V04}
use Rattle.header.specs.declared.Header.{Header}
use Rattle.header.specs.Header.{upper_or_digit, part, hex_char, digits, perimeter01, version_chars, header_chars, write_header, Shaped, kept}
use Rattle.header.specs.inner.Code.{perimeter_in, country_in, perimeter_of, country_of}
use Rattle.text.specs.Signature.{length_of_bytes, write_signature}
use Rattle.text.specs.Text.{Message, in_turn, ending, data_of, write_field, write_zone, writing, write_text}
use Rattle.laws.proofs.Back.{Admitted, admitted}
use Rattle.laws.proofs.Heads.{PartsOf, parts_of, HeaderBack, header_back}
use Rattle.refusal.specs.Classes.{digit, upper}

both : (l m : List ℕ) → Below 128 l → Below 128 m → Below 128 (l ++ m)
both [] m b c = c
both (x ∷ l) m b c = (b.0, both l m b.1 c)

-- data
kind_small : (k : Kind) (c : ℕ) → in_kind k c ≡ true → c < 128
kind_small Numeric c e = by_and (leb 48 c) (leb c 57) e λ _ b. omega (arith, leb-true c 57 b)
kind_small Alphabetic c e = by_or (upper c) (eqb c 32) e (λ e. by_and (leb 65 c) (leb c 90) e λ _ b. omega (arith, leb-true c 90 b)) (λ e. omega (arith, eqb-true c 32 e))
kind_small Alphanumeric c e = by_and (leb 32 c) (leb c 95) e λ _ b. omega (arith, leb-true c 95 b)

allowed_small : (r : Row) (chars : List ℕ) (c : ℕ) → allowed r chars c ≡ true → c < 128
unfolding allowed
allowed_small r chars c e = kind_small r.kind c e

turn_small : (r : Row) (l chars : List ℕ) → in_turn r chars l ≡ true → Below 128 l
unfolding in_turn
turn_small r [] chars e = tt
turn_small r (c ∷ l) chars e = by_and (allowed r chars c) (in_turn r (chars ++ (c ∷ [])) l) e λ a t. (allowed_small r chars c a, turn_small r l (chars ++ (c ∷ [])) t)

ending_small : (r : Row) (chars : List ℕ) (cut : Bool) → Below 128 (ending r chars cut)
ending_small r chars true = (omega arith, tt)
ending_small r chars false = go (full r chars)
  where
    go : (b : Bool) → Below 128 (pick b [] (29 ∷ []))
    go true = tt
    go false = (omega arith, tt)

-- identifiers
unfoldable small : Dictionary → Bool
small [] = true
small (r ∷ d) = (ltb r.first 128 && ltb r.second 128) && small d

rows_small : small rows ≡ true
unfolding rows small
rows_small = refl

row_small : (d : Dictionary) (n i : ℕ) (r : Row) → small d ≡ true → row_at d n i ≡ good r → (r.first < 128) × (r.second < 128)
unfolding row_at small
row_small [] n i r s e = never e
row_small (q ∷ d) zero i r s e = rw (← same_good e) (by_and _ _ s λ a _. by_and _ _ a λ x y. (ltb-true q.first 128 x, ltb-true q.second 128 y))
row_small (q ∷ d) (suc n) i r s e = by_and (ltb q.first 128 && ltb q.second 128) (small d) s λ _ b. row_small d n i r b e

zone_small : (d : Dictionary) (source : List ℕ) (fs before : List Field) (i : ℕ) (l : List ℕ) → small d ≡ true → write_zone d source before i fs ≡ good l → Below 128 l
unfolding write_zone
zone_small d source [] before i l sd e = rw (← same_good e) tt
zone_small d source (f ∷ fs) before i l sd e =
    by_bind (write_field d source before i f) _ e λ x ex e.
    by_bind (write_zone d source (before ++ (f ∷ [])) (suc i) fs) _ e λ y ey e.
    rw (← same_good e) (both x y (one x (admitted d source before i f x ex)) (zone_small d source fs (before ++ (f ∷ [])) (suc i) y sd ey))
  where
    one : (x : List ℕ) → Admitted d source before f x → Below 128 x
    one x a =
        let q = row_small d f.row 0 a.row sd a.found in
        rw a.is (q.0, (q.1, both (data_of source f) (ending a.row (data_of source f) f.cut) (turn_small a.row (data_of source f) [] a.turn) (ending_small a.row (data_of source f) f.cut)))

-- the header: its sets, and the parts that are of them
abbrev Small : List (ℕ → Bool) → Type 0
Small [] = Unit {0}
Small (f ∷ fs) = ((c : ℕ) → f c ≡ true → c < 128) × Small fs

upper_small : (c : ℕ) → upper c ≡ true → c < 128
upper_small c e = by_and (leb 65 c) (leb c 90) e λ _ b. omega (arith, leb-true c 90 b)

digit_small : (c : ℕ) → digit c ≡ true → c < 128
digit_small c e = by_and (leb 48 c) (leb c 57) e λ _ b. omega (arith, leb-true c 57 b)

either_small : (c : ℕ) → upper_or_digit c ≡ true → c < 128
either_small c e = by_or (upper c) (digit c) e (upper_small c) (digit_small c)

part_small : (fs : List (ℕ → Bool)) (p : ℕ) (t x : List ℕ) → Small fs → part fs p t ≡ good x → Below 128 x
unfolding part
part_small [] p t x s e = rw (← same_good e) tt
part_small (f ∷ fs) p t x s e =
    by_check (f (get_or t p 0)) wrong_header_character p _ e λ h e.
    by_bind (part fs (suc p) t) _ e λ y ey e.
    rw (← same_good e) (s.0 (get_or t p 0) h, part_small fs (suc p) t y s.1 ey)

hex_small : (v : ℕ) → v < 16 → hex_char v < 128
hex_small v h = go (ltb v 10)
  where
    go : (b : Bool) → pick b (v + 48) (v + 55) < 128
    go true = omega arith
    go false = omega arith

digits_small : (n : ℕ) → n < 65536 → Below 128 (digits n)
unfolding digits
digits_small n h = (hex_small (n / 4096) (omega arith), (hex_small (n / 256 % 16) (omega arith), (hex_small (n / 16 % 16) (omega arith), (hex_small (n % 16) (omega arith), tt))))

version_small : (v : Version) → Below 128 (version_chars v)
version_small V02 = (omega arith, (omega arith, tt))
version_small V03 = (omega arith, (omega arith, tt))
version_small V04 = (omega arith, (omega arith, tt))

perimeter_small : (t x : List ℕ) → perimeter01 t ≡ good x → Below 128 x
perimeter_small t x e = by_check (eqb (get_or t 22 0) 48 && eqb (get_or t 23 0) 49) wrong_perimeter 22 _ e λ _ e. rw (← same_good e) (omega arith, (omega arith, tt))

tail_small : (v : Version) (h : Header) (t : List ℕ) → perimeter_in v t ≡ good (kept v h).perimeter → country_in v t ≡ good (kept v h).country → Below 128 (perimeter_of v h ++ country_of v h)
tail_small V02 h t e f = tt
tail_small V03 h t e f = both h.perimeter [] (perimeter_small t h.perimeter e) tt
tail_small V04 h t e f = both h.perimeter h.country (perimeter_small t h.perimeter e) (part_small (upper ∷ upper ∷ []) 24 t h.country (upper_small, (upper_small, tt)) f)

header_small : (h : Header) (t : List ℕ) → Shaped h → write_header h ≡ good t → Below 128 t
unfolding header_chars
header_small h t s e = go (header_back h t s e)
  where
    go : HeaderBack h t → Below 128 t
    go b = subst (Below 128) (sym b.chars) (chars b.version (parts_of b.version t (kept b.version h) b.reads))
      where
        chars : (v : Version) → PartsOf v t (kept v h) → Below 128 (header_chars v h)
        chars v p = (
          omega arith,
          (
            omega arith,
            both (version_chars v) _ (version_small v)
                (both h.authority _ (part_small _ 4 t h.authority (upper_small, (upper_small, (either_small, (either_small, tt)))) p.authority)
                (both h.certificate _ (part_small _ 8 t h.certificate (either_small, (either_small, (either_small, (either_small, tt)))) p.certificate)
                (both (digits h.issue_day) _ (digits_small h.issue_day s.issue_day)
                (both (digits h.signing_day) _ (digits_small h.signing_day s.signing_day)
                (both h.doctype _ (part_small _ 20 t h.doctype (either_small, (either_small, tt)) p.doctype)
                (tail_small v h t p.perimeter p.country)))))),
          ),
        )

-- the signature
alphabet_small : (c : ℕ) → in_alphabet c ≡ true → c < 128
alphabet_small c e = by_or (leb 65 c && leb c 90) (leb 50 c && leb c 55) e
    (λ e. by_and (leb 65 c) (leb c 90) e λ _ b. omega (arith, leb-true c 90 b))
    (λ e. by_and (leb 50 c) (leb c 55) e λ _ b. omega (arith, leb-true c 55 b))

chars_small : (l : List ℕ) → Below 32 l → Below 128 (map char_of l)
chars_small [] b = tt
chars_small (v ∷ l) b = (alphabet_small (char_of v) (value_char v b.0).1, chars_small l b.1)

signature_small : (bs l : List ℕ) → Below 256 bs → write_signature bs ≡ good l → Below 128 l
unfolding write_signature
signature_small bs l b e = by_check (length_of_bytes (length bs)) signature_length 0 _ e λ _ e. rw (← same_good e) (chars_small (values bs) (values_below bs b))

-- THE TEXT
pub written_small : (m : Message) (source : List ℕ) → Shaped m.header → Below 256 m.signature → (room : ℕ) (t : List ℕ) → write_text rows m source room ≡ good t → Below 128 t
unfolding writing write_text
written_small m source s b room t e =
    by_bind (writing rows m source) _ e λ u eu e.
    by_check (leb (length u) limit) text_too_long limit _ e λ _ e.
    by_check (leb (length u) room) lent_too_short 0 _ e λ _ e.
    subst (Below 128) (same_good e) (whole u eu)
  where
    whole : (u : List ℕ) → writing rows m source ≡ good u → Below 128 u
    whole u e =
        by_check (leb (length m.fields) most_fields) too_many_fields most_fields _ e λ _ e.
        by_bind (write_header m.header) _ e λ head eh e.
        by_bind (write_zone rows source [] 0 m.fields) _ e λ z ez e.
        by_bind (write_signature m.signature) _ e λ g eg e.
        rw (← same_good e) (both head _ (header_small m.header head s eh) (both z _ (zone_small rows source m.fields [] 0 z rows_small ez) (omega arith, signature_small m.signature g b eg)))
