-- What `write_text` answers and leaves in the output, by the definition of writing a text.
use Rattle.std.specs.Prelude.{ℕ, List, ◌≡◌, length}
use Rattle.std.specs.declared.result.Result.{Result}
use Rattle.refusal.specs.Answers.{Answer, good, refused}
use Rattle.refusal.specs.Over.{over}
use Rattle.refusal.specs.Said.{says, turned}
use Rattle.refusal.specs.declared.Refusal.{Refusal}
use Rattle.dictionary.specs.Rows.{rows}
use Rattle.dictionary.specs.declared.Field.{Field}
use Rattle.header.specs.declared.Header.{Header}
use Rattle.text.specs.Text.{Message, write_text}

abbrev pub message_of : Header → List Field → (signature : List ℕ) → Message
message_of h fields s = record { header = h; fields = fields; signature = s }

-- Behind the text nothing is changed, and a refusal changes nothing.
abbrev pub written_over : Answer (List ℕ) → List ℕ → List ℕ
written_over (good t) old = over t old
written_over (refused k p) old = old

-- WHAT `write_text` PROMISES of its answer, the text's length, and of the output
abbrev pub WritePromised : Header → List Field → (signature source old new : List ℕ) → Result ℕ Refusal → Type 0
WritePromised h fields s source old new r =
    (says r ≡ turned length (write_text rows (message_of h fields s) source (length old)))
    × (new ≡ written_over (write_text rows (message_of h fields s) source (length old)) old)
