-- A header's characters, piece by piece behind each other over an output.
-- Assumes nothing.
use Prim.Native.Nat.{ℕ, ◌+◌, ◌≤◌}
use mathlib.Core.Bool.{true, false}
use mathlib.Core.List.{List, [], ◌∷◌, ◌++◌, append_assoc, append-nil}
use mathlib.Core.Path.{◌≡◌, refl, sym, ap, ◌∙◌}
use native.Mathlib.Omega.{arith}
use lib.ListN.{length, take, drop, length-append}
use lib.Seq.{take_at, drop_at, drop-drop}
use borrow.Rule.Slice.PartMut.{put_mid}
use Rattle.refusal.specs.Pick.{pick}
use Rattle.refusal.specs.Over.{over}
use Rattle.refusal.proofs.Binds.{clash}
use Rattle.header.specs.declared.Version.{Version}
use Rattle.header.specs.declared.Version.TheVariants.{V02, V03, V04}
use Rattle.header.specs.declared.Header.{Header}
use Rattle.header.specs.Header.{size, has_perimeter, has_country, version_chars, digits, header_chars}
use Rattle.header.specs.inner.Code.{perimeter_of, country_of}

-- the characters `done`, a of them, stand at the front of x, and behind them what was there
pub record Laid (done old x : List ℕ) (a : ℕ) : Type 0 where
  pub is : x ≡ over done old
  pub long : length done ≡ a

-- one piece more
put : (done piece old x z : List ℕ) (a k : ℕ) → Laid done old x a → z ≡ piece → length piece ≡ k → Laid (done ++ piece) old (put_mid a k x z) (a + k)
put done piece old x z a k l e m =
    let front : take a x ≡ done = ap (take a) l.is ∙ take_at done (drop (length done) old) a l.long in
    let back : drop a x ≡ drop a old = ap (drop a) l.is ∙ drop_at done (drop (length done) old) a l.long ∙ ap (λ j. drop j old) l.long in
    let all : length (done ++ piece) ≡ a + k = omega (arith, length-append done piece, l.long) in
    record {
      is = (λ i. front i ++ (e i ++ drop k (back i))) ∙ sym (append_assoc done piece (drop k (drop a old))) ∙ ap (λ l. (done ++ piece) ++ l) (drop-drop k a old ∙ ap (λ j. drop j old) (sym all));
      long = all;
    }

two_long : (v : Version) → length (version_chars v) ≡ 2
two_long V02 = refl
two_long V03 = refl
two_long V04 = refl

four_long : (n : ℕ) → length (digits n) ≡ 4
unfolding digits
four_long n = refl

-- the first 22 characters, which every version has
abbrev pub fixed : Version → Header → List ℕ
fixed v h = ((((((68 ∷ 67 ∷ []) ++ version_chars v) ++ h.authority) ++ h.certificate) ++ digits h.issue_day) ++ digits h.signing_day) ++ h.doctype

pub fixed_laid : (v : Version) (h : Header) (old x w a b i s t : List ℕ) → length h.authority ≡ 4 → length h.certificate ≡ 4 → length h.doctype ≡ 2
    → x ≡ 68 ∷ 67 ∷ [] → w ≡ version_chars v → a ≡ h.authority → b ≡ h.certificate → i ≡ digits h.issue_day → s ≡ digits h.signing_day → t ≡ h.doctype
    → Laid (fixed v h) old (put_mid 20 2 (put_mid 16 4 (put_mid 12 4 (put_mid 8 4 (put_mid 4 4 (put_mid 2 2 (x ++ drop 2 old) w) a) b) i) s) t) 22
fixed_laid v h old x w a b i s t la lb lt ex ew ea eb ei es et =
    let dc : Laid (68 ∷ 67 ∷ []) old (x ++ drop 2 old) 2 = record { is = ap (λ l. l ++ drop 2 old) ex; long = refl } in
    let version = put (68 ∷ 67 ∷ []) (version_chars v) old (x ++ drop 2 old) w 2 2 dc ew (two_long v) in
    let authority = put _ h.authority old _ a 4 4 version ea la in
    let certificate = put _ h.certificate old _ b 8 4 authority eb lb in
    let issue = put _ (digits h.issue_day) old _ i 12 4 certificate ei (four_long h.issue_day) in
    let signing = put _ (digits h.signing_day) old _ s 16 4 issue es (four_long h.signing_day) in
    put _ h.doctype old _ t 20 2 signing et lt

-- with the perimeter, where the version has it
abbrev pub WithPerimeter : Version → Header → (old x : List ℕ) → Type 0
WithPerimeter v h old x = Laid (fixed v h ++ perimeter_of v h) old x (pick (has_perimeter v) 24 22)

pub perimeter_then : (v : Version) (h : Header) (old x z : List ℕ) → has_perimeter v ≡ true → length h.perimeter ≡ 2 → z ≡ h.perimeter → Laid (fixed v h) old x 22 → WithPerimeter v h old (put_mid 22 2 x z)
perimeter_then V02 h old x z e m f l = clash e
perimeter_then V03 h old x z e m f l = put (fixed V03 h) h.perimeter old x z 22 2 l f m
perimeter_then V04 h old x z e m f l = put (fixed V04 h) h.perimeter old x z 22 2 l f m

pub perimeter_else : (v : Version) (h : Header) (old x : List ℕ) → has_perimeter v ≡ false → Laid (fixed v h) old x 22 → WithPerimeter v h old x
perimeter_else V02 h old x e l = rw append-nil l
perimeter_else V03 h old x e l = clash (sym e)
perimeter_else V04 h old x e l = clash (sym e)

-- THE CHARACTERS OF A HEADER: and with the country
whole : (v : Version) (h : Header) → (fixed v h ++ perimeter_of v h) ++ country_of v h ≡ header_chars v h
unfolding header_chars
whole v h = simp append_assoc

pub country_then : (v : Version) (h : Header) (old x z : List ℕ) → has_country v ≡ true → length h.country ≡ 2 → z ≡ h.country → WithPerimeter v h old x → put_mid 24 2 x z ≡ over (header_chars v h) old
country_then V02 h old x z e m f l = clash e
country_then V03 h old x z e m f l = clash e
country_then V04 h old x z e m f l = (put (fixed V04 h ++ h.perimeter) h.country old x z 24 2 l f m).is ∙ ap (λ d. over d old) (whole V04 h)

pub country_else : (v : Version) (h : Header) (old x : List ℕ) → has_country v ≡ false → WithPerimeter v h old x → x ≡ over (header_chars v h) old
country_else V02 h old x e l = l.is ∙ ap (λ d. over d old) (sym (append-nil (fixed V02 h ++ [])) ∙ whole V02 h)
country_else V03 h old x e l = l.is ∙ ap (λ d. over d old) (sym (append-nil (fixed V03 h ++ h.perimeter)) ∙ whole V03 h)
country_else V04 h old x e l = clash (sym e)

-- how many they are
chars_long : (v : Version) (h : Header) → length h.authority ≡ 4 → length h.certificate ≡ 4 → length h.doctype ≡ 2 → length h.perimeter ≡ 2 → length h.country ≡ 2 → length (header_chars v h) ≡ size v
unfolding header_chars digits
chars_long V02 h la lb lt lp lc = simp (length-append) (omega arith)
chars_long V03 h la lb lt lp lc = simp (length-append) (omega arith)
chars_long V04 h la lb lt lp lc = simp (length-append) (omega arith)

pub in_front : (v : Version) (h : Header) (old x : List ℕ) → length h.authority ≡ 4 → length h.certificate ≡ 4 → length h.doctype ≡ 2 → length h.perimeter ≡ 2 → length h.country ≡ 2 → x ≡ over (header_chars v h) old → take (size v) x ≡ header_chars v h
in_front v h old x la lb lt lp lc e = ap (take (size v)) e ∙ take_at (header_chars v h) (drop (length (header_chars v h)) old) (size v) (chars_long v h la lb lt lp lc)
