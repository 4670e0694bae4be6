-- When the fields of two messages are equal, and that this is an equivalence.
use Rattle.std.specs.Prelude.{Bool}
use Rattle.std.specs.Bool.{beq, nat_eq}
use Rattle.std.specs.Cmp.{IsEquivalence, bool_eq_equiv}
use Rattle.std.specs.Cmp.Lexicographic.{pointwise}
use Rattle.std.specs.Ordering.{on, eq_of_both}
use Rattle.std.proofs.lemmas.Cmp.{on_equiv, and_equiv, lists_equiv, nat_eq_equiv}
use Rattle.arrayvec.specs.ArrayVec.{ArrayVec}
use Rattle.dictionary.specs.declared.Field.{Field}

-- row, mark, start and length are the same
abbrev pub same : Field → Field → Bool
same = eq_of_both (on (λ f. f.row) nat_eq) (eq_of_both (on (λ f. f.cut) beq) (eq_of_both (on (λ f. f.start) nat_eq) (on (λ f. f.length) nat_eq)))

-- as many fields, each the same as the other's
abbrev pub equal : ArrayVec Field → ArrayVec Field → Bool
equal = on (λ v. v.items) (pointwise same)

pub same_laws : IsEquivalence same
same_laws =
    and_equiv (on_equiv (λ f. f.row) nat_eq_equiv) (and_equiv (on_equiv (λ f. f.cut) bool_eq_equiv)
    (and_equiv (on_equiv (λ f. f.start) nat_eq_equiv) (on_equiv (λ f. f.length) nat_eq_equiv)))

pub equal_laws : IsEquivalence equal
equal_laws = on_equiv (λ v. v.items) (lists_equiv same_laws)
