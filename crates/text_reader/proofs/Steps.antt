-- The data of a field, character by character: what reading on answers at a character, and at the zone's end.
-- Assumes nothing.
use Rattle.std.proofs.Common.{ℕ, suc, false, ◌≡◌, ◌+◌, ◌-◌, ◌≤◌, ◌<◌, List, [], ◌∷◌, ◌++◌, length, drop, get_or, arith, length-drop, drop-cons, add-one, ◌∙◌}
use Rattle.std.proofs.Math.ListN.{drop_of_length-le}
use Rattle.std.proofs.Math.Seq.{length-take-le, take-suc, get_or-drop}
use Rattle.refusal.specs.Pick.{pick}
use Rattle.refusal.specs.Answers.{good, refused}
use Rattle.refusal.specs.Numbers.{zone_ends_inside}
use Rattle.dictionary.specs.Dictionary.{is_greatest}
use Rattle.dictionary.specs.declared.Row.{Row}
use Rattle.dictionary.specs.inner.Lookup.{so_far}
use Rattle.text.specs.Zone.{does, on_does, read_data}

pub so_long : (text : List ℕ) (start n : ℕ) → start + n ≤ length text → length (so_far text start n) ≡ n
so_long text start n fits = length-take-le n (drop start text) (omega (arith, length-drop start text))

pub at_char : (text : List ℕ) (p : ℕ) → p < length text → drop p text ≡ get_or text p 0 ∷ drop (p + 1) text
at_char text p h = rw add-one (drop-cons text p 0 h)

module _ (row : Row) (at : ℕ) (text : List ℕ) (start : ℕ) where
  one_more : (p : ℕ) → start ≤ p → p < length text → so_far text start (p + 1 - start) ≡ so_far text start (p - start) ++ (get_or text p 0 ∷ [])
  one_more p h k =
      let n : p + 1 - start ≡ suc (p - start) = omega arith in
      let q : start + (p - start) ≡ p = omega arith in
      rw n (take-suc (drop start text) (p - start) 0 (omega (arith, length-drop start text)) ∙ rw (get_or-drop start text (p - start) 0, q))

  pub step : (p : ℕ) → start ≤ p → p < length text → read_data row at (so_far text start (p - start)) p (drop p text)
      ≡ on_does (does row (so_far text start (p - start)) (get_or text p 0)) (so_far text start (p - start)) (get_or text p 0) p (drop (p + 1) text) (read_data row at (so_far text start (p + 1 - start)) (p + 1) (drop (p + 1) text))
  unfolding read_data
  step p h k = rw (at_char text p k, one_more p h k, add-one p)

  pub at_end : (p : ℕ) → start ≤ p → p ≡ length text → read_data row at (so_far text start (p - start)) p (drop p text)
      ≡ pick (is_greatest row.greatest (length text - start)) (good (record { chars = so_far text start (length text - start); cut = false; next = length text; rest = drop (length text) text })) (refused zone_ends_inside at)
  unfolding read_data
  at_end p h e =
      let long = so_long text start (length text - start) (omega arith) in
      let none = drop_of_length-le text {i = length text} (omega arith) in
      rw (e, none, long)
