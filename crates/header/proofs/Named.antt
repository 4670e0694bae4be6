-- Every refusal of a header, in reading and in writing, has a number above 0. By its checks, each of which has a number.
-- Assumes nothing.
use Prim.Native.Nat.{ℕ, suc}
use mathlib.Core.Bool.{Bool, ◌&&◌}
use mathlib.Core.List.{List, [], ◌∷◌}
use native.Mathlib.Omega.{arith}
use lib.Dec.{leb, eqb}
use lib.ListN.{length, get_or}
use Rattle.refusal.specs.Answers.{good, refused}
use Rattle.refusal.specs.Classes.{upper}
use Rattle.refusal.specs.Numbers.{header_too_short, not_dc, unknown_version, wrong_header_character, wrong_perimeter}
use Rattle.refusal.proofs.Named.{Named, fine, with_number, bind, seq, check_then, choose}
use Rattle.header.specs.declared.Header.{Header}
use Rattle.header.specs.declared.Version.{Version}
use Rattle.header.specs.declared.Version.TheVariants.{V02, V03, V04}
use Rattle.header.specs.Header.{version_of, size, blank, upper_or_digit, hex, part, perimeter01, parts, read_header, known, header_chars, write_header}
use Rattle.header.specs.inner.Code.{perimeter_in, country_in}

-- the pieces: version, characters of a part, perimeter and country
version_named : (a b : ℕ) → Named (version_of a b)
version_named a b =
    choose (eqb a 48 && eqb b 50) (good V02) _ (fine V02)
    (choose (eqb a 48 && eqb b 51) (good V03) _ (fine V03)
    (choose (eqb a 48 && eqb b 52) (good V04) (refused unknown_version 2) (fine V04) (with_number unknown_version 2 (omega arith))))

part_named : (fs : List (ℕ → Bool)) (p : ℕ) (t : List ℕ) → Named (part fs p t)
unfolding part
part_named [] p t = fine []
part_named (f ∷ fs) p t =
    check_then (f (get_or t p 0)) wrong_header_character p _ (omega arith)
    (bind (part fs (suc p) t) _ (part_named fs (suc p) t) (λ l. fine (get_or t p 0 ∷ l)))

perimeter01_named : (t : List ℕ) → Named (perimeter01 t)
perimeter01_named t = check_then (eqb (get_or t 22 0) 48 && eqb (get_or t 23 0) 49) wrong_perimeter 22 (good (48 ∷ 49 ∷ [])) (omega arith) (fine (48 ∷ 49 ∷ []))

perimeter_named : (v : Version) (t : List ℕ) → Named (perimeter_in v t)
perimeter_named V02 t = fine blank
perimeter_named V03 t = perimeter01_named t
perimeter_named V04 t = perimeter01_named t

country_named : (v : Version) (t : List ℕ) → Named (country_in v t)
country_named V02 t = fine blank
country_named V03 t = fine blank
country_named V04 t = part_named (upper ∷ upper ∷ []) 24 t

pub parts_named : (v : Version) (t : List ℕ) → Named (parts v t)
unfolding parts
parts_named v t =
    bind _ _ (part_named (upper ∷ upper ∷ upper_or_digit ∷ upper_or_digit ∷ []) 4 t) λ authority.
    bind _ _ (part_named (upper_or_digit ∷ upper_or_digit ∷ upper_or_digit ∷ upper_or_digit ∷ []) 8 t) λ certificate.
    bind _ _ (part_named (hex ∷ hex ∷ hex ∷ hex ∷ []) 12 t) λ issue_day.
    bind _ _ (part_named (hex ∷ hex ∷ hex ∷ hex ∷ []) 16 t) λ signing_day.
    bind _ _ (part_named (upper_or_digit ∷ upper_or_digit ∷ []) 20 t) λ doctype.
    bind _ _ (perimeter_named v t) λ perimeter.
    bind _ _ (country_named v t) λ country. fine _

-- whatever reading a header refuses has a number
pub header_named : (t : List ℕ) → Named (read_header t)
unfolding read_header known
header_named t =
    check_then (leb 22 (length t)) header_too_short (length t) _ (omega arith)
    (check_then (eqb (get_or t 0 0) 68 && eqb (get_or t 1 0) 67) not_dc 0 _ (omega arith)
    (bind (version_of (get_or t 2 0) (get_or t 3 0)) _ (version_named (get_or t 2 0) (get_or t 3 0)) λ v.
    check_then (leb (size v) (length t)) header_too_short (length t) _ (omega arith)
    (bind (parts v t) _ (parts_named v t) λ header. fine _)))

-- and whatever writing one refuses
pub written_named : (h : Header) → Named (write_header h)
written_named h =
    bind (version_of (get_or h.version 0 0) (get_or h.version 1 0)) _ (version_named (get_or h.version 0 0) (get_or h.version 1 0)) λ v.
    seq (parts v (header_chars v h)) _ (parts_named v (header_chars v h)) (fine (header_chars v h))
