-- One field of a zone: what reading on answers at its identifier, test by test.
-- Assumes nothing.
use Rattle.std.proofs.Common.{ℕ, Option, Some, suc, zero, false, true, not, Bool, ◌≡◌, ◌+◌, ◌-◌, ◌<◌, List, [], ◌∷◌, ◌++◌, length, drop, get_or, leb, arith, refl, add_assoc, ap, ◌∙◌, sym}
use borrow.Author.Tests.{leb-true, leb-false}
use Rattle.std.proofs.Math.ListN.{drop_of_length-le}
use Rattle.refusal.specs.Pick.{pick}
use Rattle.refusal.specs.Answers.{Answer, refused, ◌>>=◌, ◌>>◌, check}
use Rattle.refusal.specs.Numbers.{zone_ends_inside, data_too_short, identifier_repeated, too_many_fields}
use Rattle.refusal.specs.Limits.{most_fields}
use Rattle.refusal.specs.Among.{among}
use Rattle.dictionary.specs.Dictionary.{find, rows_of}
use Rattle.dictionary.specs.Rows.{rows, row_count}
use Rattle.dictionary.specs.declared.Row.{Row}
use Rattle.dictionary.specs.declared.Field.{Field}
use Rattle.dictionary.specs.inner.Lookup.{found_says}
use Rattle.dictionary.proofs.Rows.{find_below, rows_many}
use Rattle.text.specs.Zone.{read_data, zone}
use Rattle.text_reader.proofs.Steps.{at_char}

module _ (text : List ℕ) (fields : List Field) (p : ℕ) where
  pub half : length text ≡ p + 1 → zone rows (most_fields - length fields) fields p (drop p text) ≡ refused zone_ends_inside p
  unfolding zone
  half e = let none = drop_of_length-le text {i = p + 1} (omega arith) in rw (at_char text p (omega arith), none) (go (most_fields - length fields))
    where
      go : (m : ℕ) → zone rows m fields p (get_or text p 0 ∷ []) ≡ refused zone_ends_inside p
      go zero = refl
      go (suc m) = refl

  -- the identifier, and behind it what stands where the list is full and where it isn't
  abbrev field_at : (full : Bool) → Answer (List Field)
  field_at full = do
    n ← find (get_or text p 0) (get_or text (p + 1) 0) 0 p rows
    check (not (among n.number (rows_of fields))) identifier_repeated p
    pick full (refused too_many_fields p) (
        read_data n.row p [] (p + 2) (drop (p + 2) text) >>= λ x.
        check (leb n.row.least (length x.chars)) data_too_short p >>
        zone rows (most_fields - suc (length fields)) (fields ++ (record { row = n.number; start = p + 2; length = length x.chars; cut = x.cut } ∷ [])) x.next x.rest)

  pub whole : p + 1 < length text → zone rows (most_fields - length fields) fields p (drop p text) ≡ field_at (leb most_fields (length fields))
  unfolding zone
  whole h = rw (at_char text p (omega arith), at_char text (p + 1) h, add_assoc p 1 1) (go (leb most_fields (length fields)) refl)
    where
      go : (b : Bool) → leb most_fields (length fields) ≡ b → zone rows (most_fields - length fields) fields p (get_or text p 0 ∷ get_or text (p + 1) 0 ∷ drop (p + 2) text) ≡ field_at b
      go true e = let none : most_fields - length fields ≡ 0 = omega (arith, leb-true most_fields (length fields) e) in rw none
      go false e = let some : most_fields - length fields ≡ suc (most_fields - suc (length fields)) = omega (arith, leb-false most_fields (length fields) e) in rw some

-- the number of a row that is found is one of the dictionary's
pub on_row : (a b : ℕ) (o : Option (ℕ × Row)) (n : ℕ) (row : Row) → ((p : ℕ) → found_says o p ≡ find a b 0 p rows) → o ≡ Some (n, row) → n < row_count
on_row a b o n row found e = omega (arith, find_below a b 0 0 rows (record { number = n; row = row }) (sym (found 0) ∙ ap (λ o. found_says o 0) e), rows_many)
