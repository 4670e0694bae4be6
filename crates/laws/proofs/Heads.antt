-- The header, both ways. What was read part by part stands there as it is written; what was written reads as the parts that the
-- version has. The four hexadecimal digits of a day are its number, and only the header's own characters count.
-- Assumes nothing.
use Prim.Native.Nat.{ℕ, suc, ◌+◌, ◌-◌, ◌*◌, ◌/◌, ◌%◌, ◌≤◌, ◌<◌}
use mathlib.Core.Bool.{Bool, true, false, ◌&&◌}
use mathlib.Core.List.{List, [], ◌∷◌, ◌++◌, append_assoc, append-nil}
use mathlib.Core.Path.{◌≡◌, refl, ap, sym, subst, ◌∙◌}
use native.Mathlib.Omega.{arith}
use lib.Dec.{leb, ltb, eqb}
use lib.ListN.{length, get_or, take, drop, length-append, length-drop, get_or-append}
use lib.Seq.{drop-cons, take_at, drop_at, drop-drop}
use borrow.Author.Tests.{leb-true, le-leb, lt-leb, ltb-true, ltb-false, lt-ltb, le-ltb, eqb-true}
use Rattle.refusal.specs.Answers.{good}
use Rattle.refusal.specs.Numbers.{header_too_short, not_dc, wrong_header_character, wrong_perimeter}
use Rattle.refusal.proofs.Tests.{by_test}
use Rattle.refusal.proofs.Binds.{never, same_good, by_bind, by_check, by_seq, by_and, by_or}
use Rattle.header.specs.declared.Version.{Version}
use Rattle.header.specs.declared.Version.TheVariants.{V02, V03, V04}
use Rattle.header.specs.declared.Header.{Header}
use Rattle.header.specs.Header.{size, upper_or_digit, hex, version_of, part, hex_value, hex_char, number, digits, perimeter01, version_chars, parts, Headed, known, read_header, header_chars, write_header, Shaped, kept}
use Rattle.header.specs.inner.Code.{perimeter_in, country_in, perimeter_of, country_of, kept_perimeter, kept_country}
use Rattle.refusal.specs.Classes.{between, upper, digit}

-- the characters of a part stand in the text
pub part_is : (fs : List (ℕ → Bool)) (p : ℕ) (t x : List ℕ) → part fs p t ≡ good x → p + length fs ≤ length t → (drop p t ≡ x ++ drop (p + length fs) t) × (length x ≡ length fs)
unfolding part
part_is [] p t x e h = let z : p + 0 ≡ p = omega arith in rw (← same_good e, z) (refl, refl)
part_is (f ∷ fs) p t x e h =
    by_check (f (get_or t p 0)) wrong_header_character p _ e λ _ e.
    by_bind (part fs (suc p) t) _ e λ y ey e.
    let r = part_is fs (suc p) t y ey (omega arith) in
    let z : suc p + length fs ≡ p + suc (length fs) = omega arith in
    rw (← same_good e) (drop-cons t p 0 (omega arith) ∙ ap (λ l. get_or t p 0 ∷ l) (rw z at r.0), ap suc r.1)

-- and only they count
pub part_append : (fs : List (ℕ → Bool)) (p : ℕ) (t u : List ℕ) → p + length fs ≤ length t → part fs p (t ++ u) ≡ part fs p t
unfolding part
part_append [] p t u h = refl
part_append (f ∷ fs) p t u h = rw (get_or-append t u 0 p (omega arith), part_append fs (suc p) t u (omega arith))

-- hexadecimal digits
hex_value_law : (c : ℕ) → hex c ≡ true → (hex_char (hex_value c) ≡ c) × (hex_value c < 16)
hex_value_law c e = by_or (digit c) (between 65 70 c) e
    (λ e. by_and (leb 48 c) (leb c 57) e λ a b.
    let g : 48 ≤ c = leb-true 48 c a in
    let h : c ≤ 57 = leb-true c 57 b in
    rw (b, lt-ltb (c - 48) 10 (omega arith)) (omega arith, omega arith))
    (λ e. by_and (leb 65 c) (leb c 70) e λ a b.
    let g : 65 ≤ c = leb-true 65 c a in
    let h : c ≤ 70 = leb-true c 70 b in
    rw (lt-leb c 57 (omega arith), le-ltb (c - 55) 10 (omega arith)) (omega arith, omega arith))

hex_char_law : (v : ℕ) → v < 16 → hex_value (hex_char v) ≡ v
hex_char_law v h = go (ltb v 10) refl
  where
    go : (b : Bool) → ltb v 10 ≡ b → hex_value (hex_char v) ≡ v
    go true e = let g : v < 10 = ltb-true v 10 e in rw (e, le-leb (v + 48) 57 (omega arith)) (omega arith)
    go false e = let g : 10 ≤ v = ltb-false v 10 e in rw (e, lt-leb (v + 55) 57 (omega arith)) (omega arith)

four : (a b c d : ℕ) → hex a ≡ true → hex b ≡ true → hex c ≡ true → hex d ≡ true → digits (number (a ∷ b ∷ c ∷ d ∷ [])) ≡ a ∷ b ∷ c ∷ d ∷ []
unfolding digits number
four a b c d ha hb hc hd = go (hex_value a) (hex_value b) (hex_value c) (hex_value d) (hex_value_law a ha) (hex_value_law b hb) (hex_value_law c hc) (hex_value_law d hd)
  where
    go : (x y z w : ℕ) → (hex_char x ≡ a) × (x < 16) → (hex_char y ≡ b) × (y < 16) → (hex_char z ≡ c) × (z < 16) → (hex_char w ≡ d) × (w < 16) → digits (4096 * x + 256 * y + 16 * z + w) ≡ a ∷ b ∷ c ∷ d ∷ []
    go x y z w (p, i) (q, j) (r, k) (s, l) =
        let n = 4096 * x + 256 * y + 16 * z + w in
        let n1 : (4096 * x + 256 * y + 16 * z + w) / 4096 ≡ x = omega arith in
        let n2 : (4096 * x + 256 * y + 16 * z + w) / 256 ≡ 16 * x + y = omega arith in
        let n3 : (4096 * x + 256 * y + 16 * z + w) / 16 ≡ 256 * x + 16 * y + z = omega arith in
        let n4 : (4096 * x + 256 * y + 16 * z + w) % 16 ≡ w = omega arith in
        let m2 : (16 * x + y) % 16 ≡ y = omega arith in
        let m3 : (256 * x + 16 * y + z) % 16 ≡ z = omega arith in
        rw (n1, n2, n3, n4, m2, m3, p, q, r, s)

-- a day that was read is written as it stood
day_is : (p : ℕ) (t x : List ℕ) → part (hex ∷ hex ∷ hex ∷ hex ∷ []) p t ≡ good x → digits (number x) ≡ x
unfolding part
day_is p t x e =
    by_check (hex (get_or t p 0)) wrong_header_character p _ e λ a e.
    by_bind (part (hex ∷ hex ∷ hex ∷ []) (suc p) t) _ e λ x₁ e₁ e.
    by_check (hex (get_or t (suc p) 0)) wrong_header_character (suc p) _ e₁ λ b e₁.
    by_bind (part (hex ∷ hex ∷ []) (suc (suc p)) t) _ e₁ λ x₂ e₂ e₁.
    by_check (hex (get_or t (suc (suc p)) 0)) wrong_header_character (suc (suc p)) _ e₂ λ c e₂.
    by_bind (part (hex ∷ []) (suc (suc (suc p))) t) _ e₂ λ x₃ e₃ e₂.
    by_check (hex (get_or t (suc (suc (suc p))) 0)) wrong_header_character (suc (suc (suc p))) _ e₃ λ d e₃.
    rw (← same_good e, ← same_good e₁, ← same_good e₂, ← same_good e₃) (four _ _ _ _ a b c d)

-- a day that was written is read as it was
pub day_back : (n : ℕ) → n < 65536 → number (digits n) ≡ n
unfolding digits number
day_back n h =
    let a : n / 4096 < 16 = omega arith in
    let b : n / 256 % 16 < 16 = omega arith in
    let c : n / 16 % 16 < 16 = omega arith in
    let d : n % 16 < 16 = omega arith in
    let q : n / 256 ≡ 16 * (n / 4096) + n / 256 % 16 = omega arith in
    let r : n / 16 ≡ 16 * (n / 256) + n / 16 % 16 = omega arith in
    rw (hex_char_law (n / 4096) a, hex_char_law (n / 256 % 16) b, hex_char_law (n / 16 % 16) c, hex_char_law (n % 16) d) (omega arith)

-- behind the type: perimeter and country, by version
perimeter_is : (t pe : List ℕ) → 24 ≤ length t → perimeter01 t ≡ good pe → drop 22 t ≡ pe ++ drop 24 t
perimeter_is t pe h e =
    by_check (eqb (get_or t 22 0) 48 && eqb (get_or t 23 0) 49) wrong_perimeter 22 _ e λ c e. by_and (eqb (get_or t 22 0) 48) (eqb (get_or t 23 0) 49) c λ a b.
    rw (← same_good e) (drop-cons t 22 0 (omega arith) ∙ ap (λ l. get_or t 22 0 ∷ l) (drop-cons t 23 0 (omega arith)) ∙ rw (eqb-true (get_or t 22 0) 48 a, eqb-true (get_or t 23 0) 49 b))

tail_is : (v : Version) (h : Header) (t : List ℕ) → size v ≤ length t → perimeter_in v t ≡ good h.perimeter → country_in v t ≡ good h.country → drop 22 t ≡ (perimeter_of v h ++ country_of v h) ++ drop (size v) t
tail_is V02 h t s e f = refl
tail_is V03 h t s e f = perimeter_is t h.perimeter s e ∙ ap (λ l. l ++ drop 24 t) (sym (append-nil h.perimeter))
tail_is V04 h t s e f =
    perimeter_is t h.perimeter (omega arith) e ∙ ap (λ l. h.perimeter ++ l) (part_is (upper ∷ upper ∷ []) 24 t h.country f s).0
    ∙ sym (append_assoc h.perimeter h.country (drop 26 t))

-- what reading the parts says of them
pub record PartsOf (v : Version) (t : List ℕ) (h : Header) : Type 0 where
  pub issued : List ℕ
  pub signed : List ℕ
  pub version : h.version ≡ version_chars v
  pub authority : part (upper ∷ upper ∷ upper_or_digit ∷ upper_or_digit ∷ []) 4 t ≡ good h.authority
  pub certificate : part (upper_or_digit ∷ upper_or_digit ∷ upper_or_digit ∷ upper_or_digit ∷ []) 8 t ≡ good h.certificate
  pub issue_day : part (hex ∷ hex ∷ hex ∷ hex ∷ []) 12 t ≡ good issued
  pub issue_is : h.issue_day ≡ number issued
  pub signing_day : part (hex ∷ hex ∷ hex ∷ hex ∷ []) 16 t ≡ good signed
  pub signing_is : h.signing_day ≡ number signed
  pub doctype : part (upper_or_digit ∷ upper_or_digit ∷ []) 20 t ≡ good h.doctype
  pub perimeter : perimeter_in v t ≡ good h.perimeter
  pub country : country_in v t ≡ good h.country

pub parts_of : (v : Version) (t : List ℕ) (h : Header) → parts v t ≡ good h → PartsOf v t h
unfolding parts
parts_of v t h e =
    by_bind (part (upper ∷ upper ∷ upper_or_digit ∷ upper_or_digit ∷ []) 4 t) _ e λ au e₁ e.
    by_bind (part (upper_or_digit ∷ upper_or_digit ∷ upper_or_digit ∷ upper_or_digit ∷ []) 8 t) _ e λ ce e₂ e.
    by_bind (part (hex ∷ hex ∷ hex ∷ hex ∷ []) 12 t) _ e λ is e₃ e.
    by_bind (part (hex ∷ hex ∷ hex ∷ hex ∷ []) 16 t) _ e λ si e₄ e.
    by_bind (part (upper_or_digit ∷ upper_or_digit ∷ []) 20 t) _ e λ ty e₅ e.
    by_bind (perimeter_in v t) _ e λ pe e₆ e.
    by_bind (country_in v t) _ e λ co e₇ e.
    rw (← same_good e) (record { issued = is; signed = si; version = refl; authority = e₁; certificate = e₂; issue_day = e₃; issue_is = refl; signing_day = e₄; signing_is = refl; doctype = e₅; perimeter = e₆; country = e₇ })

right : (w a c i s y q rest : List ℕ) → w ++ (a ++ (c ++ (i ++ (s ++ (y ++ (q ++ rest)))))) ≡ (w ++ (a ++ (c ++ (i ++ (s ++ (y ++ q)))))) ++ rest
right w a c i s y q rest = simp append_assoc

least_size : (v : Version) → 22 ≤ size v
least_size V02 = omega arith
least_size V03 = omega arith
least_size V04 = omega arith

-- A HEADER THAT WAS READ stands there as it is written
pub header_stands : (v : Version) (t : List ℕ) (h : Header) → PartsOf v t h → size v ≤ length t → t ≡ 68 ∷ 67 ∷ version_chars v ++ drop 4 t → t ≡ header_chars v h ++ drop (size v) t
unfolding header_chars
header_stands v t h p s front =
    let l : 22 ≤ length t = omega (arith, least_size v) in
    let d4 : drop 4 t ≡ h.authority ++ drop 8 t = (part_is _ 4 t h.authority p.authority (omega arith)).0 in
    let d8 : drop 8 t ≡ h.certificate ++ drop 12 t = (part_is _ 8 t h.certificate p.certificate (omega arith)).0 in
    let d12 : drop 12 t ≡ p.issued ++ drop 16 t = (part_is _ 12 t p.issued p.issue_day (omega arith)).0 in
    let d16 : drop 16 t ≡ p.signed ++ drop 20 t = (part_is _ 16 t p.signed p.signing_day (omega arith)).0 in
    let d20 : drop 20 t ≡ h.doctype ++ drop 22 t = (part_is _ 20 t h.doctype p.doctype (omega arith)).0 in
    let d22 = tail_is v h t s p.perimeter p.country in
    let i : digits h.issue_day ≡ p.issued = ap digits p.issue_is ∙ day_is 12 t p.issued p.issue_day in
    let j : digits h.signing_day ≡ p.signed = ap digits p.signing_is ∙ day_is 16 t p.signed p.signing_day in
    front ∙ ap (λ l. 68 ∷ 67 ∷ version_chars v ++ l)
    (d4 ∙ ap (λ l. h.authority ++ l) (d8 ∙ ap (λ l. h.certificate ++ l) (d12 ∙ ap (λ l. p.issued ++ l) (d16 ∙ ap (λ l. p.signed ++ l) (d20 ∙ ap (λ l. h.doctype ++ l) d22)))))
    ∙ rw (i, j) (right (68 ∷ 67 ∷ version_chars v) h.authority h.certificate p.issued p.signed h.doctype (perimeter_of v h ++ country_of v h) (drop (size v) t))

-- the version
pub version_is : (a b : ℕ) (v : Version) → version_of a b ≡ good v → a ∷ b ∷ [] ≡ version_chars v
version_is a b v e =
    by_test (eqb a 48 && eqb b 50) _ _ _ e (λ t q. by_and (eqb a 48) (eqb b 50) t λ x y. rw (← same_good q, eqb-true a 48 x, eqb-true b 50 y)) λ _ e.
    by_test (eqb a 48 && eqb b 51) _ _ _ e (λ t q. by_and (eqb a 48) (eqb b 51) t λ x y. rw (← same_good q, eqb-true a 48 x, eqb-true b 51 y)) λ _ e.
    by_test (eqb a 48 && eqb b 52) _ _ _ e (λ t q. by_and (eqb a 48) (eqb b 52) t λ x y. rw (← same_good q, eqb-true a 48 x, eqb-true b 52 y)) λ _ e. never e

version_back : (v : Version) → version_of (get_or (version_chars v) 0 0) (get_or (version_chars v) 1 0) ≡ good v
version_back V02 = refl
version_back V03 = refl
version_back V04 = refl

-- DC and the version at the front
front_is : (t : List ℕ) (v : Version) → 22 ≤ length t → (eqb (get_or t 0 0) 68 && eqb (get_or t 1 0) 67) ≡ true → version_of (get_or t 2 0) (get_or t 3 0) ≡ good v → t ≡ 68 ∷ 67 ∷ version_chars v ++ drop 4 t
front_is t v l c e = by_and (eqb (get_or t 0 0) 68) (eqb (get_or t 1 0) 67) c λ a b.
    drop-cons t 0 0 (omega arith) ∙ ap (λ m. get_or t 0 0 ∷ m) (drop-cons t 1 0 (omega arith) ∙ ap (λ m. get_or t 1 0 ∷ m) (drop-cons t 2 0 (omega arith) ∙ ap (λ m. get_or t 2 0 ∷ m) (drop-cons t 3 0 (omega arith))))
    ∙ rw (eqb-true (get_or t 0 0) 68 a, eqb-true (get_or t 1 0) 67 b) (ap (λ m. 68 ∷ 67 ∷ (m ++ drop 4 t)) (version_is (get_or t 2 0) (get_or t 3 0) v e))

-- what stands behind the header doesn't count for its parts
perimeter_append : (t u : List ℕ) → 24 ≤ length t → perimeter01 (t ++ u) ≡ perimeter01 t
perimeter_append t u h = rw (get_or-append t u 0 22 (omega arith), get_or-append t u 0 23 (omega arith))

perimeter_in_append : (v : Version) (t u : List ℕ) → size v ≤ length t → perimeter_in v (t ++ u) ≡ perimeter_in v t
perimeter_in_append V02 t u h = refl
perimeter_in_append V03 t u h = perimeter_append t u (omega arith)
perimeter_in_append V04 t u h = perimeter_append t u (omega arith)

country_in_append : (v : Version) (t u : List ℕ) → size v ≤ length t → country_in v (t ++ u) ≡ country_in v t
country_in_append V02 t u h = refl
country_in_append V03 t u h = refl
country_in_append V04 t u h = part_append (upper ∷ upper ∷ []) 24 t u (omega arith)

parts_append : (v : Version) (t u : List ℕ) → size v ≤ length t → parts v (t ++ u) ≡ parts v t
unfolding parts
parts_append v t u h =
    let l : 22 ≤ length t = omega (arith, least_size v) in
    rw (
      part_append (upper ∷ upper ∷ upper_or_digit ∷ upper_or_digit ∷ []) 4 t u (omega arith),
      part_append (upper_or_digit ∷ upper_or_digit ∷ upper_or_digit ∷ upper_or_digit ∷ []) 8 t u (omega arith),
      part_append (hex ∷ hex ∷ hex ∷ hex ∷ []) 12 t u (omega arith),
      part_append (hex ∷ hex ∷ hex ∷ hex ∷ []) 16 t u (omega arith),
      part_append (upper_or_digit ∷ upper_or_digit ∷ []) 20 t u (omega arith),
      perimeter_in_append v t u h,
      country_in_append v t u h,
    )

written_as : (v : Version) (h g : Header) → version_of (get_or h.version 0 0) (get_or h.version 1 0) ≡ good v → parts v (header_chars v h) ≡ good g → write_header h ≡ good (header_chars v h)
written_as v h g e f = rw (e, f)

-- A HEADER THAT WAS READ is written as it stood
pub record HeaderCovered (v : Version) (t : List ℕ) (h : Header) : Type 0 where
  pub stands : t ≡ header_chars v h ++ drop (size v) t
  pub long : length (header_chars v h) ≡ size v
  pub written : write_header h ≡ good (header_chars v h)

header_covers : (v : Version) (t : List ℕ) (h : Header) → parts v t ≡ good h → size v ≤ length t → t ≡ 68 ∷ 67 ∷ version_chars v ++ drop 4 t → HeaderCovered v t h
header_covers v t h e s front = go (parts_of v t h e)
  where
    go : PartsOf v t h → HeaderCovered v t h
    go p = on (header_stands v t h p s front)
      where
        on : t ≡ header_chars v h ++ drop (size v) t → HeaderCovered v t h
        on st = record { stands = st; long = len; written = written_as v h h (ap (λ l. version_of (get_or l 0 0) (get_or l 1 0)) p.version ∙ version_back v) (sym (parts_append v (header_chars v h) (drop (size v) t) (omega (arith, len))) ∙ ap (parts v) (sym st) ∙ e) }
          where
            len : length (header_chars v h) ≡ size v
            len = omega (arith, ap length st, length-append (header_chars v h) (drop (size v) t), length-drop (size v) t)

-- AND BACK: what a header is written as reads as the header's parts
append_left : (x y u w : List ℕ) → x ++ u ≡ y ++ w → length x ≡ length y → x ≡ y
append_left x y u w e h = sym (take_at x u (length x) refl) ∙ ap (take (length x)) e ∙ take_at y w (length x) (sym h)

part_same : (fs : List (ℕ → Bool)) (p : ℕ) (t x y z : List ℕ) → part fs p t ≡ good x → p + length fs ≤ length t → drop p t ≡ y ++ z → length y ≡ length fs → x ≡ y
part_same fs p t x y z e h q l = let r = part_is fs p t x e h in append_left x y (drop (p + length fs) t) z (sym r.0 ∙ q) (r.1 ∙ sym l)

drop_next : (p k : ℕ) (t y z : List ℕ) → drop p t ≡ y ++ z → length y ≡ k → drop (p + k) t ≡ z
drop_next p k t y z e h = sym (drop-drop k p t) ∙ ap (drop k) e ∙ drop_at y z k h

drop_front : (v : Version) (l : List ℕ) → drop 4 (68 ∷ 67 ∷ version_chars v ++ l) ≡ l
drop_front V02 l = refl
drop_front V03 l = refl
drop_front V04 l = refl

perimeter_same : (t pe y z : List ℕ) → 24 ≤ length t → perimeter01 t ≡ good pe → drop 22 t ≡ y ++ z → length y ≡ 2 → pe ≡ y
perimeter_same t pe y z h e q l =
    by_check (eqb (get_or t 22 0) 48 && eqb (get_or t 23 0) 49) wrong_perimeter 22 _ e λ _ f.
    append_left pe y (drop 24 t) z (sym (perimeter_is t pe h e) ∙ q) (ap length (sym (same_good f)) ∙ sym l)

tail_length : (v : Version) (h : Header) → Shaped h → 22 + (length (perimeter_of v h) + length (country_of v h)) ≡ size v
tail_length V02 h s = refl
tail_length V03 h s = omega (arith, s.perimeter)
tail_length V04 h s = omega (arith, s.perimeter, s.country)

tail_same : (v : Version) (h g : Header) (t : List ℕ) → Shaped h → size v ≤ length t → perimeter_in v t ≡ good g.perimeter → country_in v t ≡ good g.country → drop 22 t ≡ perimeter_of v h ++ country_of v h → (g.perimeter ≡ kept_perimeter v h) × (g.country ≡ kept_country v h)
tail_same V02 h g t s l e f q = (sym (same_good e), sym (same_good f))
tail_same V03 h g t s l e f q = (perimeter_same t g.perimeter h.perimeter [] l e q s.perimeter, sym (same_good f))
tail_same V04 h g t s l e f q = (
  perimeter_same t g.perimeter h.perimeter h.country (omega arith) e q s.perimeter,
  part_same (upper ∷ upper ∷ []) 24 t g.country h.country [] f l (drop_next 22 2 t h.perimeter h.country q s.perimeter ∙ sym (append-nil h.country)) s.country,
)

same_header : (g h : Header) → g.version ≡ h.version → g.authority ≡ h.authority → g.certificate ≡ h.certificate → g.issue_day ≡ h.issue_day → g.signing_day ≡ h.signing_day → g.doctype ≡ h.doctype → g.perimeter ≡ h.perimeter → g.country ≡ h.country → g ≡ h
same_header g h a b c d e f p q = λ i. record { version = a i; authority = b i; certificate = c i; issue_day = d i; signing_day = e i; doctype = f i; perimeter = p i; country = q i }

two_chars : (l : List ℕ) → length l ≡ 2 → l ≡ get_or l 0 0 ∷ get_or l 1 0 ∷ []
two_chars [] h = absurd (omega arith)
two_chars (a ∷ []) h = absurd (omega arith)
two_chars (a ∷ b ∷ []) h = refl
two_chars (a ∷ b ∷ c ∷ l) h = absurd (omega arith)

chars_length : (v : Version) (h : Header) → Shaped h → length (header_chars v h) ≡ size v
unfolding header_chars digits
chars_length v h s =
    let y = h.doctype ++ (perimeter_of v h ++ country_of v h) in
    omega (
      arith,
      four_front v (h.authority ++ (h.certificate ++ (digits h.issue_day ++ (digits h.signing_day ++ y)))),
      length-append h.authority (h.certificate ++ (digits h.issue_day ++ (digits h.signing_day ++ y))),
      length-append h.certificate (digits h.issue_day ++ (digits h.signing_day ++ y)),
      length-append h.doctype (perimeter_of v h ++ country_of v h),
      length-append (perimeter_of v h) (country_of v h),
      tail_length v h s,
      s.authority,
      s.certificate,
      s.doctype,
    )
  where
    four_front : (v : Version) (l : List ℕ) → length (68 ∷ 67 ∷ version_chars v ++ l) ≡ 4 + length l
    four_front V02 l = omega arith
    four_front V03 l = omega arith
    four_front V04 l = omega arith

pub record HeaderBack (h : Header) (t : List ℕ) : Type 0 where
  pub version : Version
  pub known : version_of (get_or h.version 0 0) (get_or h.version 1 0) ≡ good version
  pub chars : t ≡ header_chars version h
  pub long : length t ≡ size version
  pub reads : parts version t ≡ good (kept version h)

module _ (v : Version) (h g : Header) (s : Shaped h) (ver : h.version ≡ version_chars v) (p : PartsOf v (header_chars v h) g) where
  abbrev t : List ℕ
  t = header_chars v h

  pub parts_same : g ≡ kept v h
  unfolding header_chars digits
  parts_same =
      let y = perimeter_of v h ++ country_of v h in
      let len = chars_length v h s in
      let l : 22 ≤ length t = omega (arith, least_size v, len) in
      let d4 : drop 4 t ≡ h.authority ++ (h.certificate ++ (digits h.issue_day ++ (digits h.signing_day ++ (h.doctype ++ y)))) = drop_front v _ in
      let d8 : drop 8 t ≡ h.certificate ++ (digits h.issue_day ++ (digits h.signing_day ++ (h.doctype ++ y))) = drop_next 4 4 t h.authority _ d4 s.authority in
      let d12 : drop 12 t ≡ digits h.issue_day ++ (digits h.signing_day ++ (h.doctype ++ y)) = drop_next 8 4 t h.certificate _ d8 s.certificate in
      let d16 : drop 16 t ≡ digits h.signing_day ++ (h.doctype ++ y) = drop_next 12 4 t (digits h.issue_day) _ d12 (four_digits h.issue_day) in
      let d20 : drop 20 t ≡ h.doctype ++ y = drop_next 16 4 t (digits h.signing_day) _ d16 (four_digits h.signing_day) in
      let d22 : drop 22 t ≡ y = drop_next 20 2 t h.doctype y d20 s.doctype in
      let e = tail_same v h g t s (omega (arith, len)) p.perimeter p.country d22 in
      same_header g (kept v h) (p.version ∙ sym ver)
      (part_same _ 4 t g.authority h.authority _ p.authority (omega arith) d4 s.authority)
      (part_same _ 8 t g.certificate h.certificate _ p.certificate (omega arith) d8 s.certificate)
      (p.issue_is ∙ ap number (part_same _ 12 t p.issued (digits h.issue_day) _ p.issue_day (omega arith) d12 (four_digits h.issue_day)) ∙ day_back h.issue_day s.issue_day)
      (p.signing_is ∙ ap number (part_same _ 16 t p.signed (digits h.signing_day) _ p.signing_day (omega arith) d16 (four_digits h.signing_day)) ∙ day_back h.signing_day s.signing_day)
      (part_same _ 20 t g.doctype h.doctype y p.doctype (omega arith) d20 s.doctype)
      e.0 e.1
    where
      four_digits : (n : ℕ) → length (digits n) ≡ 4
      four_digits n = refl

pub header_back : (h : Header) (t : List ℕ) → Shaped h → write_header h ≡ good t → HeaderBack h t
header_back h t s e =
    by_bind (version_of (get_or h.version 0 0) (get_or h.version 1 0)) _ e λ v ev e.
    by_seq (parts v (header_chars v h)) _ e λ g eg e.
    let ver : h.version ≡ version_chars v = two_chars h.version s.version ∙ version_is _ _ v ev in
    let same = parts_same v h g s ver (parts_of v (header_chars v h) g eg) in
    record {
      version = v;
      known = ev;
      chars = sym (same_good e);
      long = ap length (sym (same_good e)) ∙ chars_length v h s;
      reads = ap (parts v) (sym (same_good e)) ∙ eg ∙ ap good same;
    }

-- READING A HEADER: what was read is written as it stood
pub header_read : (t : List ℕ) (x : Headed) → read_header t ≡ good x → HeaderCovered x.version t x.header
unfolding read_header known
header_read t x e =
    by_check (leb 22 (length t)) header_too_short (length t) _ e λ l e.
    by_check (eqb (get_or t 0 0) 68 && eqb (get_or t 1 0) 67) not_dc 0 _ e λ dc e.
    by_bind (version_of (get_or t 2 0) (get_or t 3 0)) _ e λ v ev e.
    by_check (leb (size v) (length t)) header_too_short (length t) _ e λ sz e.
    by_bind (parts v t) _ e λ header eh e.
    rw (← same_good e) (header_covers v t header eh (leb-true _ _ sz) (front_is t v (leb-true _ _ l) dc ev))

front_back : (v : Version) (h : Header) (l : List ℕ) → (eqb (get_or (header_chars v h ++ l) 0 0) 68 && eqb (get_or (header_chars v h ++ l) 1 0) 67) ≡ true
unfolding header_chars
front_back v h l = refl

version_at : (v : Version) (h : Header) (l : List ℕ) → version_of (get_or (header_chars v h ++ l) 2 0) (get_or (header_chars v h ++ l) 3 0) ≡ good v
unfolding header_chars
version_at V02 h l = refl
version_at V03 h l = refl
version_at V04 h l = refl

-- and what was written is read as it was, whatever stands behind it
pub header_again : (h : Header) (head rest : List ℕ) → (b : HeaderBack h head) → read_header (head ++ rest) ≡ good (record { version = b.version; header = kept b.version h })
unfolding read_header known
header_again h head rest b =
    rw (
      le-leb 22 (length (head ++ rest)) (omega (arith, least_size v, len)),
      subst (λ x. (eqb (get_or (x ++ rest) 0 0) 68 && eqb (get_or (x ++ rest) 1 0) 67) ≡ true) (sym b.chars) (front_back v h rest),
      subst (λ x. version_of (get_or (x ++ rest) 2 0) (get_or (x ++ rest) 3 0) ≡ good v) (sym b.chars) (version_at v h rest),
      le-leb (size v) (length (head ++ rest)) (omega (arith, len)),
      parts_append v head rest (omega (arith, b.long)) ∙ b.reads,
    )
  where
    v : Version
    v = b.version

    len : length (head ++ rest) ≡ size b.version + length rest
    len = omega (arith, length-append head rest, b.long)
