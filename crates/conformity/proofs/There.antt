-- The rows that fields name, field by field: a row is there, or among those of the fields that are left.
-- Assumes nothing.
use Prim.Native.Nat.{ℕ, ◌+◌, ◌≤◌, ◌<◌}
use mathlib.Core.Bool.{Bool, true, false, ◌||◌}
use Rattle.std.proofs.Math.Bool.{or-false}
use mathlib.Core.List.{List}
use mathlib.Core.Path.{◌≡◌, refl, ap, sym, ◌∙◌}
use native.Mathlib.Omega.{arith}
use native.Mathlib.Numerals.{add-one}
use lib.Dec.{eqb}
use lib.ListN.{length, get_or, set, drop, replicate, drop_of_length-le, get_or-replicate}
use lib.Seq.{drop-cons, get_or-set_same, get_or-set_other}
use borrow.Author.Tests.{eqb-true, eqb-false, ne_eqb}
use Rattle.refusal.specs.Among.{among}
use Rattle.dictionary.specs.declared.Field.{Field}
use Rattle.dictionary.specs.Dictionary.{rows_of}
use Rattle.dictionary.specs.inner.Lookup.{no_field}
use Rattle.dictionary.specs.Rows.{row_count}
use Rattle.conformity.specs.inner.Code.{there_in}

abbrev pub Split : (there : List Bool) → (fields : List Field) → (done : ℕ) → Type 0
Split there fields i = (n : ℕ) → n < row_count → (there_in there n || among n (rows_of (drop i fields))) ≡ among n (rows_of fields)

pub none_there : (fields : List Field) → Split (replicate 110 false) fields 0
none_there fields n h = rw (get_or-replicate 110 n false false h) refl

pub all_there : (there : List Bool) (fields : List Field) (i : ℕ) → Split there fields i → length fields ≤ i → (n : ℕ) → n < row_count → there_in there n ≡ among n (rows_of fields)
unfolding among
all_there there fields i split h n l =
    sym (or-false (there_in there n)) ∙ ap (λ (fs : List Field). there_in there n || among n (rows_of fs)) (sym (drop_of_length-le fields {i = i} h)) ∙ split n l

or_true : (x y : Bool) → true ≡ (x || (true || y))
or_true true y = refl
or_true false y = refl

module _ (there : List Bool) (fields : List Field) (i row : ℕ) (split : Split there fields i) (h : i < length fields) (is : row ≡ (get_or fields i no_field).row) where
  unrolled : (n : ℕ) → n < row_count → (there_in there n || (eqb n row || among n (rows_of (drop (i + 1) fields)))) ≡ among n (rows_of fields)
  unfolding among
  unrolled n l = rw (is, add-one i) (ap (λ (fs : List Field). there_in there n || among n (rows_of fs)) (sym (drop-cons fields i no_field h)) ∙ split n l)

  abbrev more : (n : ℕ) → Bool
  more n = among n (rows_of (drop (i + 1) fields))

  pub one_more : length there ≡ 110 → row < 110 → Split (set there row true) fields (i + 1)
  one_more long r n l = go (eqb n row) refl ∙ unrolled n l
    where
      go : (b : Bool) → eqb n row ≡ b → (there_in (set there row true) n || more n) ≡ (there_in there n || (b || more n))
      go true e =
          ap (λ (x : Bool). x || more n) (ap (there_in (set there row true)) (eqb-true n row e) ∙ get_or-set_same there row true false (omega arith))
          ∙ or_true (there_in there n) (more n)
      go false e = ap (λ (x : Bool). x || more n) (get_or-set_other there row n true false (eqb-false n row e))

  pub no_row : 110 ≤ row → Split there fields (i + 1)
  no_row r n l = ap (λ (b : Bool). there_in there n || (b || more n)) (sym (ne_eqb n row (λ e. omega arith))) ∙ unrolled n l
