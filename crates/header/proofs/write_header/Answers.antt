-- `write_header` meets its contract: the pieces stand behind each other.
use Rattle.std.proofs.Common.{rules, ◌≡◌, length, sym, subst, ◌∙◌}
use Rattle.header.proofs.Writes.{fixed_laid, WithPerimeter, perimeter_then, perimeter_else, country_then, country_else}
use Rattle.header.proofs.write_header.Goals.{then-has_perimeter, else-has_perimeter}
use Rattle.header.proofs.write_header.Goals as goal

pub returns-then-has_country : goal.returns-then-has_country
returns-then-has_country c =
    let s = c.args in
    let front = fixed_laid s.v s.h s.out.now _ _ _ _ _ _ _ (search rules) (search rules) (search rules) c.copy_from_slice.ensures.after (c.copy_from_slice-2.ensures.after ∙ c.chars.ensures)
    c.copy_from_slice-3.ensures.after c.copy_from_slice-4.ensures.after (c.copy_from_slice-5.ensures.after ∙ c.digits.ensures) (c.copy_from_slice-6.ensures.after ∙ c.digits-2.ensures) c.copy_from_slice-7.ensures.after in
    let long : length s.h.perimeter ≡ 2 = search rules in
    let with : WithPerimeter s.v s.h s.out.now c.if-has_perimeter.out = elim c.if-has_perimeter.branch [
      | then-has_perimeter w ↦ subst (WithPerimeter s.v s.h s.out.now) (sym w.out-is) (perimeter_then s.v s.h s.out.now _ _ (sym c.has_perimeter.ensures ∙ w.if-has_perimeter.true) long w.copy_from_slice-then-has_perimeter.ensures.after front)
      | else-has_perimeter w ↦ subst (WithPerimeter s.v s.h s.out.now) (sym w.out-is) (perimeter_else s.v s.h s.out.now _ (sym c.has_perimeter.ensures ∙ w.if-has_perimeter.false) front)
    ] in
    country_then s.v s.h s.out.now _ _ (sym c.has_country.ensures ∙ c.if-has_country.true) (search rules) c.copy_from_slice-then-has_country.ensures.after with

pub returns-else-has_country : goal.returns-else-has_country
returns-else-has_country c =
    let s = c.args in
    let front = fixed_laid s.v s.h s.out.now _ _ _ _ _ _ _ (search rules) (search rules) (search rules) c.copy_from_slice.ensures.after (c.copy_from_slice-2.ensures.after ∙ c.chars.ensures)
    c.copy_from_slice-3.ensures.after c.copy_from_slice-4.ensures.after (c.copy_from_slice-5.ensures.after ∙ c.digits.ensures) (c.copy_from_slice-6.ensures.after ∙ c.digits-2.ensures) c.copy_from_slice-7.ensures.after in
    let long : length s.h.perimeter ≡ 2 = search rules in
    let with : WithPerimeter s.v s.h s.out.now c.if-has_perimeter.out = elim c.if-has_perimeter.branch [
      | then-has_perimeter w ↦ subst (WithPerimeter s.v s.h s.out.now) (sym w.out-is) (perimeter_then s.v s.h s.out.now _ _ (sym c.has_perimeter.ensures ∙ w.if-has_perimeter.true) long w.copy_from_slice-then-has_perimeter.ensures.after front)
      | else-has_perimeter w ↦ subst (WithPerimeter s.v s.h s.out.now) (sym w.out-is) (perimeter_else s.v s.h s.out.now _ (sym c.has_perimeter.ensures ∙ w.if-has_perimeter.false) front)
    ] in
    country_else s.v s.h s.out.now _ (sym c.has_country.ensures ∙ c.if-has_country.false) with
