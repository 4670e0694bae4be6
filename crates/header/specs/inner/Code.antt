-- What the answers of the code's functions say, by the definitions.
use Rattle.std.specs.Prelude.{ℕ, ◌<◌, ◌≡◌, Bool, true, List, [], ◌∷◌, get_or, Option, Some, None}
use Rattle.refusal.specs.Pick.{pick}
use Rattle.refusal.specs.Answers.{Answer, good, refused}
use Rattle.refusal.specs.Numbers.{unknown_version}
use Rattle.refusal.specs.Classes.{upper}
use Rattle.header.specs.declared.Version.{Version}
use Rattle.header.specs.declared.Header.{Header}
use Rattle.header.specs.declared.HeaderRead.{HeaderRead}
use Rattle.header.specs.declared.Set.{Set}
use Rattle.header.specs.declared.Set.TheVariants.{Upper, UpperOrDigit, Hex}
use Rattle.header.specs.Header.{has_perimeter, has_country, perimeter01, part, upper_or_digit, hex, blank, Headed}

-- is the character c of the set?
abbrev pub has : Set → ℕ → Bool
has Upper c = upper c
has UpperOrDigit c = upper_or_digit c
has Hex c = hex c

-- each of the first n characters is of its set
abbrev pub Passed : List Set → (chars : List ℕ) → (n : ℕ) → Type 0
Passed sets chars n = (k : ℕ) → k < n → has (get_or sets k Upper) (get_or chars k 0) ≡ true

-- perimeter and country: as read, as written, and as they are kept
abbrev pub perimeter_in : Version → (t : List ℕ) → Answer (List ℕ)
perimeter_in v t = pick (has_perimeter v) (perimeter01 t) (good blank)

abbrev pub country_in : Version → (t : List ℕ) → Answer (List ℕ)
country_in v t = pick (has_country v) (part (upper ∷ upper ∷ []) 24 t) (good blank)

abbrev pub perimeter_of : Version → Header → List ℕ
perimeter_of v h = pick (has_perimeter v) h.perimeter []

abbrev pub country_of : Version → Header → List ℕ
country_of v h = pick (has_country v) h.country []

abbrev pub kept_perimeter : Version → Header → List ℕ
kept_perimeter v h = pick (has_perimeter v) h.perimeter blank

abbrev pub kept_country : Version → Header → List ℕ
kept_country v h = pick (has_country v) h.country blank

abbrev pub version_says : Option Version → Answer Version
version_says (Some v) = good v
version_says None = refused unknown_version 2

abbrev pub head_read : Headed → HeaderRead
head_read x = record { version = x.version; header = x.header }
