-- Each public promise leaves one answer: what is said of the first tells it, and of the second part both length and characters are said.
-- Assumes nothing.
use Rattle.std.proofs.Common.{ℕ, ◌≡◌, List, take, refl, sym, ap, ◌∙◌}
use Rattle.std.specs.declared.result.Result.{Result}
use Rattle.refusal.specs.Answers.{Answer, good, refused}
use Rattle.refusal.specs.Said.{says, turned}
use Rattle.refusal.specs.declared.Refusal.{Refusal}
use Rattle.refusal.proofs.Said.{says_one}
use Rattle.text.specs.Text.{Received}
use Rattle.text_reader.specs.Answers.{received, TextPromised, PartPromised}
use Rattle.text_reader.specs.declared.TextRead.{TextRead}

abbrev read_of : Received → TextRead
read_of x = record { header = x.message.header; fields = record { items = x.message.fields }; signature = record { items = x.message.signature }; signed_length = x.signed }

back : (x : Answer TextRead) → turned read_of (turned received x) ≡ x
back (good x) = refl
back (refused k p) = refl

pub one_text : (t : List ℕ) (room : ℕ) (r r' : Result TextRead Refusal) → TextPromised t room r → TextPromised t room r' → r ≡ r'
one_text t room r r' p q = says_one r r' (sym (back (says r)) ∙ ap (turned read_of) (p ∙ sym q) ∙ back (says r'))

pub one_part : (t part part' : List ℕ) → PartPromised t part → PartPromised t part' → part ≡ part'
one_part t part part' p q = p.0 ∙ ap (λ n. take n t) (p.1 ∙ sym q.1) ∙ sym q.0
