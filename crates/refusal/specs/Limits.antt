-- The limits of a text and of a message, by name: document 01, "Sizes".
use Rattle.std.specs.Prelude.{ℕ}

-- A text has at most 1,000 characters.
abbrev pub limit : ℕ
limit = 1000

-- A message has at most 64 fields.
abbrev pub most_fields : ℕ
most_fields = 64
