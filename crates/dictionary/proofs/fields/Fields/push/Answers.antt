use Rattle.std.proofs.Common.{◌≡◌, ◌+◌, ◌-◌, ◌∙◌, ap, sym, length, take, length-set, length-take-le, arith}
use Rattle.std.proofs.Math.ListN.{replicate}
use Rattle.std.proofs.lemmas.List.{drop-drop, drop-replicate, drop-set-lt}
use Rattle.arrayvec.specs.ArrayVec.{ArrayVec}
use Rattle.refusal.specs.Limits.{most_fields}
use Rattle.dictionary.specs.declared.Field.{Field}
use Rattle.dictionary.specs.inner.Lookup.{no_field}
use Rattle.dictionary.proofs.fields.Fields.push.Goals as goal

-- what is behind the new field is as it was, and one blank shorter
pub invariant_of-self : goal.invariant_of-self
invariant_of-self c =
    let l = c.self.inside.list in
    let n = c.self.inside.count in
    let i = c.self.invariant in
    let some : length (take n l) ≡ n = length-take-le n l (omega (arith, i.0, i.1)) in
    let same : length (take n l) ≡ length c.args.self.now.items = ap (λ (v : ArrayVec Field). length v.items) c.self.view_is in
    let left : most_fields - n - 1 ≡ most_fields - (n + 1) = omega arith in (
      omega (arith, c.requires, some, same),
      omega (arith, i.1, length-set l n c.args.field),
      drop-set-lt (n + 1) l n c.args.field (omega arith)
          ∙ (sym (drop-drop 1 n l) ∙ (rw i.2 (drop-replicate 1 (most_fields - n) no_field) ∙ ap (λ m. replicate m no_field) left)),
    )
