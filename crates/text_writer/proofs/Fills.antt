-- What stands in the output behind each piece that was written.
-- Assumes nothing.
use Rattle.std.proofs.Common.{ℕ, suc, Bool, ◌≡◌, ◌+◌, ◌-◌, ◌≤◌, ◌<◌, List, [], ◌∷◌, ◌++◌, length, get_or, set, take, drop}
use Rattle.std.proofs.Common.{drop-cons, length-append, length-drop, append_assoc, append-nil, add-one, arith, refl, sym, ap, ◌∙◌}
use Rattle.std.proofs.Math.Seq.{set_at, append_snoc, take-suc, length-take-le}
use Rattle.std.proofs.Math.ListN.{take-append-drop}
use borrow.Rule.Slice.PartMut.{put_mid}
use Rattle.refusal.specs.Over.{over}
use Rattle.refusal.proofs.Over.{over_tail}
use Rattle.dictionary.specs.inner.Lookup.{no_field}
use Rattle.dictionary.specs.Dictionary.{Dictionary}
use Rattle.dictionary.specs.declared.Field.{Field}
use Rattle.dictionary.specs.declared.Row.{Row}
use Rattle.text.specs.Text.{ending, spelled}
use Rattle.text_writer.specs.inner.Room.{field_chars, zone_chars}

-- one character more
pub one_over : (done old l : List ℕ) (k m : ℕ) → l ≡ over done old → length done ≡ k → k < length old → set l k m ≡ over (done ++ (m ∷ [])) old
one_over done old l k m e h g =
    let n : suc k ≡ length (done ++ (m ∷ [])) = omega (arith, length-append done (m ∷ [])) in
    ap (λ (x : List ℕ). set x k m) (e ∙ ap (λ j. done ++ drop j old) h ∙ ap (λ (x : List ℕ). done ++ x) (drop-cons old k 0 g))
    ∙ set_at done (get_or old k 0) (drop (suc k) old) m k h
    ∙ sym (append_snoc done m (drop (suc k) old))
    ∙ ap (λ j. (done ++ (m ∷ [])) ++ drop j old) n

-- a record is as long as its data and its identifier at least
pub spelled_least : (r : Row) (l : List ℕ) (cut : Bool) → length l + 2 ≤ length (spelled r l cut)
spelled_least r l cut = omega (arith, length-append l (ending r l cut))

-- the data as a part of the source
pub data_long : (source : List ℕ) (start n : ℕ) → start + n ≤ length source → length (take n (drop start source)) ≡ n
data_long source start n h = length-take-le n (drop start source) (omega (arith, length-drop start source))

-- records side by side, by any dictionary
module _ (d : Dictionary) (source : List ℕ) where
  -- those of two lists stand one behind the other
  pub zone_append : (l m : List Field) → zone_chars d source (l ++ m) ≡ zone_chars d source l ++ zone_chars d source m
  zone_append [] m = refl
  zone_append (f ∷ l) m =
      ap (λ (x : List ℕ). field_chars d source f ++ x) (zone_append l m)
      ∙ sym (append_assoc (field_chars d source f) (zone_chars d source l) (zone_chars d source m))

  -- one record more
  module _ (fields : List Field) (i : ℕ) (h : i < length fields) where
    pub zone_more : zone_chars d source (take (i + 1) fields) ≡ zone_chars d source (take i fields) ++ field_chars d source (get_or fields i no_field)
    zone_more =
        ap (zone_chars d source) (ap (λ j. take j fields) (add-one i) ∙ take-suc fields i no_field h)
        ∙ zone_append (take i fields) (get_or fields i no_field ∷ [])
        ∙ ap (λ (x : List ℕ). zone_chars d source (take i fields) ++ x) (append-nil (field_chars d source (get_or fields i no_field)))

    -- its characters are added to the length
    pub more_long : length (zone_chars d source (take (i + 1) fields))
        ≡ length (zone_chars d source (take i fields)) + length (field_chars d source (get_or fields i no_field))
    more_long = ap length zone_more ∙ length-append (zone_chars d source (take i fields)) (field_chars d source (get_or fields i no_field))

    -- it was written over the tail behind those before it
    pub zone_over : (out l zs : List ℕ) (p : ℕ) → p ≡ length (zone_chars d source (take i fields)) → l ≡ over (zone_chars d source (take i fields)) out
        → zs ≡ over (field_chars d source (get_or fields i no_field)) (take (length l - p) (drop p l))
        → put_mid p (length l - p) l zs ≡ over (zone_chars d source (take (i + 1) fields)) out
    zone_over out l zs p n e f =
        over_tail (zone_chars d source (take i fields)) (field_chars d source (get_or fields i no_field)) out l zs p (sym n) e f
        ∙ ap (λ (x : List ℕ). over x out) (sym zone_more)

    -- it has its room in the whole
    pub zone_fits : length (zone_chars d source (take i fields)) + length (field_chars d source (get_or fields i no_field))
        ≤ length (zone_chars d source fields)
    zone_fits =
        let parts = ap (zone_chars d source) (sym (take-append-drop (i + 1) fields)) ∙ zone_append (take (i + 1) fields) (drop (i + 1) fields) in
        omega (arith, ap length parts, length-append (zone_chars d source (take (i + 1) fields)) (zone_chars d source (drop (i + 1) fields)), more_long)
