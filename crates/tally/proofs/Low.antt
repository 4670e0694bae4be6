-- A reading refuses with a number below 256, so every text has its place in the tally. Line by line of the definitions.
-- Assumes nothing.
use Prim.Native.Nat.{ℕ, zero, suc, ◌+◌, ◌<◌}
use mathlib.Core.Bool.{Bool, true, false, not, ◌&&◌}
use mathlib.Core.List.{List, [], ◌∷◌, ◌++◌}
use native.Mathlib.Omega.{arith}
use lib.Dec.{leb, eqb}
use lib.ListN.{length, get_or, drop}
use Rattle.refusal.specs.Pick.{pick}
use Rattle.refusal.specs.Answers.{Answer, good, refused, ◌>>=◌, ◌>>◌, check}
use Rattle.refusal.specs.Among.{among}
use Rattle.refusal.specs.Classes.{upper}
use Rattle.refusal.specs.Limits.{limit, most_fields}
use Rattle.dictionary.specs.Rows.{rows}
use Rattle.dictionary.specs.Dictionary.{Dictionary, full, find, rows_of}
use Rattle.dictionary.specs.declared.Row.{Row}
use Rattle.dictionary.specs.declared.Field.{Field}
use Rattle.base32.specs.Base32.{in_alphabet}
use Rattle.header.specs.Header.{size, version_of, part, parts, known, read_header, upper_or_digit, hex}
use Rattle.header.specs.inner.Code.{perimeter_in, country_in}
use Rattle.header.specs.declared.Version.{Version}
use Rattle.header.specs.declared.Version.TheVariants.{V02, V03, V04}
use Rattle.text.specs.Signature.{length_of_chars, wrong_number, signature_chars, read_signature, spare_of}
use Rattle.text.specs.Zone.{does, on_does, Piece, read_data, zone}
use Rattle.text.specs.Text.{Halves, further, at_mark, Received, reading, read_text}
use Rattle.text.specs.declared.Does.{Does}
use Rattle.text.specs.declared.Does.TheVariants.{More, Ends, Cuts, Follows, Wrong}
use Rattle.conformity.specs.Conformity.{column_of}
use Rattle.tally.specs.Counting.{slot_of, slot_in}

abbrev Low : {A : Type 0} → Answer A → Type 0
Low (good a) = Unit {0}
Low (refused k p) = k < 256

bind : {A B : Type 0} (x : Answer A) (f : A → Answer B) → Low x → ((a : A) → Low (f a)) → Low (x >>= f)
bind (good a) f h g = g a
bind (refused k p) f h g = h

test : {B : Type 0} (b : Bool) (k p : ℕ) (x : Answer B) → k < 256 → Low x → Low (check b k p >> x)
test true k p x h g = g
test false k p x h g = h

next : {A B : Type 0} (x : Answer A) (y : Answer B) → Low x → Low y → Low (x >> y)
next (good a) y h g = g
next (refused k p) y h g = h

either : {A : Type 0} (b : Bool) (x y : Answer A) → Low x → Low y → Low (pick b x y)
either true x y h g = h
either false x y h g = g

-- the header
low_version : (a b : ℕ) → Low (version_of a b)
low_version a b = either (eqb a 48 && eqb b 50) (good V02) _ tt (either (eqb a 48 && eqb b 51) (good V03) _ tt (either (eqb a 48 && eqb b 52) (good V04) _ tt (omega arith)))

low_part : (fs : List (ℕ → Bool)) (p : ℕ) (t : List ℕ) → Low (part fs p t)
unfolding part
low_part [] p t = tt
low_part (f ∷ fs) p t = test (f (get_or t p 0)) 13 p _ (omega arith) (bind (part fs (suc p) t) _ (low_part fs (suc p) t) (λ l. tt))

low_perimeter : (v : Version) (t : List ℕ) → Low (perimeter_in v t)
low_perimeter V02 t = tt
low_perimeter V03 t = test (eqb (get_or t 22 0) 48 && eqb (get_or t 23 0) 49) 14 22 _ (omega arith) tt
low_perimeter V04 t = test (eqb (get_or t 22 0) 48 && eqb (get_or t 23 0) 49) 14 22 _ (omega arith) tt

low_country : (v : Version) (t : List ℕ) → Low (country_in v t)
low_country V02 t = tt
low_country V03 t = tt
low_country V04 t = low_part (upper ∷ upper ∷ []) 24 t

low_parts : (v : Version) (t : List ℕ) → Low (parts v t)
unfolding parts
low_parts v t =
    bind (part (upper ∷ upper ∷ upper_or_digit ∷ upper_or_digit ∷ []) 4 t) _ (low_part _ 4 t) λ authority.
    bind (part (upper_or_digit ∷ upper_or_digit ∷ upper_or_digit ∷ upper_or_digit ∷ []) 8 t) _ (low_part _ 8 t) λ certificate.
    bind (part (hex ∷ hex ∷ hex ∷ hex ∷ []) 12 t) _ (low_part _ 12 t) λ issue.
    bind (part (hex ∷ hex ∷ hex ∷ hex ∷ []) 16 t) _ (low_part _ 16 t) λ signing.
    bind (part (upper_or_digit ∷ upper_or_digit ∷ []) 20 t) _ (low_part _ 20 t) λ doctype.
    bind (perimeter_in v t) _ (low_perimeter v t) λ perimeter.
    bind (country_in v t) _ (low_country v t) λ country. tt

low_known : (v : Version) (t : List ℕ) → Low (known v t)
unfolding known
low_known v t = test (leb (size v) (length t)) 10 (length t) _ (omega arith) (bind (parts v t) _ (low_parts v t) (λ header. tt))

low_header : (t : List ℕ) → Low (read_header t)
unfolding read_header
low_header t =
    test (leb 22 (length t)) 10 (length t) _ (omega arith)
    (test (eqb (get_or t 0 0) 68 && eqb (get_or t 1 0) 67) 11 0 _ (omega arith)
    (bind (version_of (get_or t 2 0) (get_or t 3 0)) _ (low_version (get_or t 2 0) (get_or t 3 0)) (λ v. low_known v t)))

-- the zone
low_find : (a b k p : ℕ) (d : Dictionary) → Low (find a b k p d)
unfolding find
low_find a b k p [] = omega arith
low_find a b k p (r ∷ d) = either (eqb a r.first && eqb b r.second) (good (record { number = k; row = r })) _ tt (low_find a b (suc k) p d)

low_does : (x : Does) (chars : List ℕ) (c p : ℕ) (l : List ℕ) (on : Answer Piece) → Low on → Low (on_does x chars c p l on)
low_does More chars c p l on h = h
low_does Ends chars c p l on h = tt
low_does Cuts chars c p l on h = tt
low_does Follows chars c p l on h = tt
low_does Wrong chars c p l on h = omega arith

low_data : (r : Row) (at : ℕ) (chars : List ℕ) (p : ℕ) (l : List ℕ) → Low (read_data r at chars p l)
unfolding read_data
low_data r at chars p [] = either (full r chars) (good (record { chars = chars; cut = false; next = p; rest = [] })) _ tt (omega arith)
low_data r at chars p (c ∷ l) = low_does (does r chars c) chars c p l (read_data r at (chars ++ (c ∷ [])) (suc p) l) (low_data r at (chars ++ (c ∷ [])) (suc p) l)

low_zone : (d : Dictionary) (room : ℕ) (before : List Field) (p : ℕ) (l : List ℕ) → Low (zone d room before p l)
unfolding zone
low_zone d zero before p [] = tt
low_zone d zero before p (c ∷ []) = omega arith
low_zone d zero before p (a ∷ b ∷ l) = bind (find a b 0 p d) _ (low_find a b 0 p d) λ n. test (not (among n.number (rows_of before))) 20 p _ (omega arith) (omega arith)
low_zone d (suc room) before p [] = tt
low_zone d (suc room) before p (c ∷ []) = omega arith
low_zone d (suc room) before p (a ∷ b ∷ l) =
    bind (find a b 0 p d) _ (low_find a b 0 p d) λ n.
    test (not (among n.number (rows_of before))) 20 p _ (omega arith)
    (bind (read_data n.row p [] (p + 2) l) _ (low_data n.row p [] (p + 2) l) λ x.
    test (leb n.row.least (length x.chars)) 19 p _ (omega arith) (low_zone d room _ x.next x.rest))

-- the signature
low_wrong : (v : Version) (c : ℕ) → wrong_number v c < 256
low_wrong V02 c = omega arith
low_wrong V03 c = omega arith
low_wrong V04 c = go (eqb c 29)
  where
    go : (b : Bool) → pick b 24 22 < 256
    go true = omega arith
    go false = omega arith

low_chars : (v : Version) (p : ℕ) (l : List ℕ) → Low (signature_chars v p l)
unfolding signature_chars
low_chars v p [] = tt
low_chars v p (c ∷ l) = test (in_alphabet c) (wrong_number v c) p _ (low_wrong v c) (low_chars v (suc p) l)

low_signature : (v : Version) (p : ℕ) (l : List ℕ) → Low (read_signature v p l)
unfolding read_signature
low_signature v p l = next (signature_chars v p l) _ (low_chars v p l) (test (length_of_chars (length l)) 21 p _ (omega arith) (test (eqb (spare_of l) 0) 23 p _ (omega arith) tt))

-- the whole
low_further : (c : ℕ) (x : Answer Halves) → Low x → Low (further c x)
low_further c (good h) l = tt
low_further c (refused k p) l = l

low_mark : (p : ℕ) (l : List ℕ) → Low (at_mark p l)
unfolding at_mark
low_mark p [] = omega arith
low_mark p (c ∷ l) = either (eqb c 31) (good (record { before = []; behind = l })) _ tt (low_further c (at_mark (suc p) l) (low_mark (suc p) l))

low_reading : (d : Dictionary) (t : List ℕ) → Low (reading d t)
unfolding reading
low_reading d t =
    bind (read_header t) _ (low_header t) λ x.
    bind (at_mark (size x.version) (drop (size x.version) t)) _ (low_mark (size x.version) (drop (size x.version) t)) λ h.
    bind (zone d most_fields [] (size x.version) h.before) _ (low_zone d most_fields [] (size x.version) h.before) λ fields.
    bind (read_signature x.version (suc (size x.version + length h.before)) h.behind) _ (low_signature x.version (suc (size x.version + length h.before)) h.behind) λ signature. tt

low_text : (d : Dictionary) (room : ℕ) (t : List ℕ) → Low (read_text d room t)
unfolding read_text
low_text d room t = test (leb (length t) limit) 5 limit _ (omega arith) (test (leb most_fields room) 6 0 _ (omega arith) (low_reading d t))

-- a column
small_pick : (b : Bool) (x y : ℕ) → x < 262 → y < 262 → pick b x y < 262
small_pick true x y h k = h
small_pick false x y h k = k

column_small : (a b : ℕ) → column_of a b < 262
unfolding column_of
column_small a b =
    small_pick (eqb a 48) _ _
    (small_pick (eqb b 48) 0 _ (omega arith) (small_pick (eqb b 49) 1 _ (omega arith) (small_pick (eqb b 50) 2 5 (omega arith) (omega arith))))
    (small_pick (eqb a 66) _ 5 (small_pick (eqb b 48) 3 _ (omega arith) (small_pick (eqb b 49) 4 5 (omega arith) (omega arith))) (omega arith))

-- EVERY TEXT HAS ITS PLACE
pub slot_small : (text : List ℕ) → slot_in text < 262
slot_small text = go (read_text rows most_fields text) (low_text rows most_fields text)
  where
    go : (x : Answer Received) → Low x → slot_of x < 262
    go (good x) h = column_small (get_or x.message.header.doctype 0 0) (get_or x.message.header.doctype 1 0)
    go (refused k p) h = omega arith
