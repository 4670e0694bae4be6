-- What the readers answer, by the definitions.
use Rattle.std.specs.Prelude.{ℕ, List, ◌≡◌, length, take}
use Rattle.std.specs.declared.result.Result.{Result}
use Rattle.refusal.specs.Limits.{most_fields}
use Rattle.refusal.specs.Said.{says, turned}
use Rattle.refusal.specs.declared.Refusal.{Refusal}
use Rattle.dictionary.specs.Rows.{rows}
use Rattle.text.specs.Text.{Received, signed_length, read_text}
use Rattle.text_reader.specs.declared.TextRead.{TextRead}

-- a message that was read, in the words of the definition
abbrev pub received : TextRead → Received
received x = record { message = record { header = x.header; fields = x.fields.items; signature = x.signature.items }; signed = x.signed_length }

-- WHAT `read_text` PROMISES
abbrev pub TextPromised : (t : List ℕ) → (room : ℕ) → Result TextRead Refusal → Type 0
TextPromised t room r = turned received (says r) ≡ read_text rows room t

-- WHAT `signed_part` PROMISES: the part starts where the text starts, and is as long as the signed part
abbrev pub PartPromised : (t part : List ℕ) → Type 0
PartPromised t part = (part ≡ take (length part) t) × (length part ≡ signed_length (read_text rows most_fields t))
