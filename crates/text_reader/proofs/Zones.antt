-- The loop over the fields of a zone: one row more among the marks, and the zone's end.
-- Assumes nothing.
use Rattle.std.proofs.Common.{ℕ, zero, suc, Bool, true, false, ◌||◌, ◌≡◌, ◌≤◌, ◌<◌, List, [], ◌∷◌, ◌++◌, length, drop, get_or, set, refl, ap, sym, ◌∙◌}
use mathlib.Core.Bool.{or-true, or-false}
use mathlib.Core.List.{map-append}
use lib.Dec.{eqb}
use Rattle.std.proofs.Math.ListN.{drop_of_length-le, replicate, get_or-replicate}
use Rattle.std.proofs.Math.Seq.{get_or-set_same, get_or-set_other}
use borrow.Author.Tests.{eqb-true, eqb-false}
use Rattle.refusal.specs.Answers.{good}
use Rattle.refusal.specs.Among.{among}
use Rattle.dictionary.specs.Dictionary.{rows_of}
use Rattle.dictionary.specs.Rows.{rows, row_count}
use Rattle.dictionary.specs.declared.Field.{Field}
use Rattle.text.specs.Zone.{zone}
use Rattle.text_reader.specs.inner.Code.{Marks}

among_more : (n : ℕ) (l : List ℕ) (m : ℕ) → among n (l ++ (m ∷ [])) ≡ (among n l || eqb n m)
unfolding among
among_more n [] m = or-false (eqb n m)
among_more n (k ∷ l) m = go (eqb n k) (among_more n l m)
  where
    go : (b : Bool) → among n (l ++ (m ∷ [])) ≡ (among n l || eqb n m) → (b || among n (l ++ (m ∷ []))) ≡ ((b || among n l) || eqb n m)
    go true e = refl
    go false e = e

one_more : (n : ℕ) (l : List Field) (f : Field) → among n (rows_of (l ++ (f ∷ []))) ≡ (among n (rows_of l) || eqb n f.row)
one_more n l f = ap (among n) (map-append (λ (f : Field). f.row) l (f ∷ [])) ∙ among_more n (rows_of l) f.row

pub marks_none : (l : List Field) → l ≡ [] → Marks (replicate row_count false) l
unfolding among
marks_none l e n h = rw e (get_or-replicate row_count n false false h)

pub marks_more : (used : List Bool) (l : List Field) (f : Field) → f.row < length used → Marks used l → Marks (set used f.row true) (l ++ (f ∷ []))
marks_more used l f h m n k = go (eqb n f.row) refl
  where
    go : (b : Bool) → eqb n f.row ≡ b → get_or (set used f.row true) n false ≡ among n (rows_of (l ++ (f ∷ [])))
    go true e =
        let q : n ≡ f.row = eqb-true n f.row e in
        ap (λ (i : ℕ). get_or (set used f.row true) i false) q
        ∙ (get_or-set_same used f.row true false h ∙ sym (one_more n l f ∙ (ap (λ (b : Bool). among n (rows_of l) || b) e ∙ or-true (among n (rows_of l)))))
    go false e =
        get_or-set_other used f.row n true false (eqb-false n f.row e)
        ∙ (m n k ∙ sym (one_more n l f ∙ (ap (λ (b : Bool). among n (rows_of l) || b) e ∙ or-false (among n (rows_of l)))))

pub at_end : (m p : ℕ) (l : List Field) (text : List ℕ) → length text ≤ p → zone rows m l p (drop p text) ≡ good l
unfolding zone
at_end m p l text h = rw (drop_of_length-le text {i = p} h) (go m)
  where
    go : (m : ℕ) → zone rows m l p [] ≡ good l
    go zero = refl
    go (suc m) = refl
