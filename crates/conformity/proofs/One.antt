-- The promise of `conforms` has one answer.
use mathlib.Core.Path.{◌≡◌, sym, ◌∙◌}
use mathlib.Core.List.{List}
use Prim.Native.Nat.{ℕ}
use Rattle.std.specs.declared.result.Result.{Result}
use Rattle.refusal.specs.declared.Refusal.{Refusal}
use Rattle.refusal.proofs.Said.{says_one}
use Rattle.dictionary.specs.declared.Field.{Field}
use Rattle.conformity.specs.Conformity.{ConformityPromised}

pub only_one : (a b : ℕ) (fs : List Field) (r s : Result (Unit {0}) Refusal) → ConformityPromised a b fs r → ConformityPromised a b fs s → r ≡ s
only_one a b fs r s h k = says_one r s (h ∙ sym k)
