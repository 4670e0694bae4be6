-- The rows of sections 7.0, 7.1, 7.5 and 7.10 of source document 001, numbered from 0 by rising identifier, digits before letters.
-- A line is an identifier's two characters, the least and the greatest length, and the type; docs/ROWS.md has the cells that the scan lost.
use Rattle.std.specs.Prelude.{ℕ, Option, Some, None, [], ◌∷◌}
use Rattle.dictionary.specs.declared.Kind.{Kind}
use Rattle.dictionary.specs.declared.Kind.TheVariants.{Numeric, Alphabetic, Alphanumeric}
use Rattle.dictionary.specs.declared.Row.{Row}
use Rattle.dictionary.specs.Dictionary.{Dictionary}

abbrev pub row : (first second least : ℕ) → Option ℕ → Kind → Row
row a b n m k = record { first = a; second = b; least = n; greatest = m; kind = k }

unfoldable pub rows : Dictionary
rows =
    -- section 7.0: what completes any code
    row 48 49 0 None Alphanumeric ∷  -- 01
    row 48 50 0 None Alphanumeric ∷  -- 02
    row 48 51 0 None Alphanumeric ∷  -- 03
    row 48 52 0 None Alphanumeric ∷  -- 04
    row 48 53 0 None Alphanumeric ∷  -- 05
    row 48 54 4 (Some 4) Alphanumeric ∷  -- 06
    row 48 55 6 (Some 6) Numeric ∷  -- 07
    row 48 56 4 (Some 4) Alphanumeric ∷  -- 08
    row 48 57 4 (Some 4) Numeric ∷  -- 09
    row 48 65 9 (Some 9) Numeric ∷  -- 0A
    row 48 66 9 (Some 9) Numeric ∷  -- 0B
    row 48 67 0 None Alphanumeric ∷  -- 0C, "Alphanumérique et symboles"
    row 48 68 36 (Some 36) Alphanumeric ∷  -- 0D
    -- section 7.1: invoices
    row 49 48 0 (Some 38) Alphanumeric ∷  -- 10
    row 49 49 0 (Some 38) Alphanumeric ∷  -- 11
    row 49 50 0 (Some 38) Alphanumeric ∷  -- 12
    row 49 51 0 (Some 38) Alphanumeric ∷  -- 13
    row 49 52 0 (Some 38) Alphanumeric ∷  -- 14
    row 49 53 0 (Some 38) Alphanumeric ∷  -- 15
    row 49 54 0 (Some 38) Alphanumeric ∷  -- 16
    row 49 55 0 (Some 38) Alphanumeric ∷  -- 17
    row 49 56 0 None Alphanumeric ∷  -- 18
    row 49 57 0 None Alphanumeric ∷  -- 19
    row 49 65 0 None Alphanumeric ∷  -- 1A
    row 49 66 0 None Alphanumeric ∷  -- 1B
    row 49 67 8 (Some 8) Numeric ∷  -- 1C
    row 49 68 0 (Some 16) Numeric ∷  -- 1D
    row 49 69 0 (Some 30) Numeric ∷  -- 1E
    row 49 70 0 (Some 30) Numeric ∷  -- 1F
    row 49 71 1 (Some 1) Numeric ∷  -- 1G
    row 49 72 1 (Some 1) Numeric ∷  -- 1H
    row 49 73 0 (Some 38) Alphanumeric ∷  -- 1I
    row 49 74 0 (Some 38) Alphanumeric ∷  -- 1J
    row 49 75 0 (Some 38) Alphanumeric ∷  -- 1K
    row 49 76 0 (Some 38) Alphanumeric ∷  -- 1L
    row 49 77 0 (Some 38) Alphanumeric ∷  -- 1M
    row 49 78 0 (Some 38) Alphanumeric ∷  -- 1N
    row 49 79 0 (Some 38) Alphanumeric ∷  -- 1O
    row 49 80 0 (Some 38) Alphanumeric ∷  -- 1P
    row 50 48 0 (Some 38) Alphanumeric ∷  -- 20
    row 50 49 0 (Some 38) Alphanumeric ∷  -- 21
    row 50 50 0 (Some 38) Alphanumeric ∷  -- 22
    row 50 51 0 (Some 38) Alphanumeric ∷  -- 23
    row 50 52 5 (Some 5) Numeric ∷  -- 24
    row 50 53 0 (Some 32) Numeric ∷  -- 25
    row 50 54 2 (Some 2) Alphanumeric ∷  -- 26
    row 50 55 0 (Some 38) Alphanumeric ∷  -- 27
    row 50 56 0 (Some 38) Alphanumeric ∷  -- 28
    row 50 57 0 (Some 38) Alphanumeric ∷  -- 29
    row 50 65 0 (Some 38) Alphanumeric ∷  -- 2A
    row 50 66 5 (Some 5) Numeric ∷  -- 2B
    row 50 67 0 (Some 32) Numeric ∷  -- 2C
    row 50 68 2 (Some 2) Alphanumeric ∷  -- 2D
    -- section 7.5: identity papers
    row 54 48 0 (Some 60) Alphanumeric ∷  -- 60
    row 54 49 0 (Some 20) Alphanumeric ∷  -- 61
    row 54 50 0 (Some 38) Alphanumeric ∷  -- 62
    row 54 51 0 (Some 38) Alphanumeric ∷  -- 63
    row 54 52 0 (Some 38) Alphanumeric ∷  -- 64
    row 54 53 2 (Some 2) Alphanumeric ∷  -- 65
    row 54 54 0 (Some 20) Alphanumeric ∷  -- 66
    row 54 55 2 (Some 2) Alphanumeric ∷  -- 67
    row 54 56 1 (Some 1) Alphanumeric ∷  -- 68
    row 54 57 8 (Some 8) Numeric ∷  -- 69
    row 54 65 0 (Some 32) Alphanumeric ∷  -- 6A
    row 54 66 3 (Some 3) Alphanumeric ∷  -- 6B
    row 54 67 2 (Some 2) Alphanumeric ∷  -- 6C
    row 54 68 0 (Some 60) Alphanumeric ∷  -- 6D
    row 54 69 0 (Some 60) Alphanumeric ∷  -- 6E
    row 54 70 0 (Some 90) Alphanumeric ∷  -- 6F
    row 54 71 0 (Some 38) Alphanumeric ∷  -- 6G
    row 54 72 0 (Some 10) Alphanumeric ∷  -- 6H
    row 54 73 2 (Some 2) Alphanumeric ∷  -- 6I
    row 54 74 1 (Some 1) Numeric ∷  -- 6J
    row 54 75 19 (Some 19) Numeric ∷  -- 6K
    row 54 76 8 (Some 8) Alphanumeric ∷  -- 6L
    row 54 77 0 (Some 40) Alphabetic ∷  -- 6M
    row 54 78 8 (Some 8) Numeric ∷  -- 6N
    row 54 79 8 (Some 8) Numeric ∷  -- 6O
    row 54 80 0 (Some 40) Alphabetic ∷  -- 6P
    row 54 81 0 (Some 10) Alphanumeric ∷  -- 6Q
    row 54 82 12 (Some 12) Alphanumeric ∷  -- 6R
    row 54 83 0 (Some 38) Alphanumeric ∷  -- 6S
    row 54 84 0 (Some 38) Alphanumeric ∷  -- 6T
    row 54 85 0 (Some 38) Alphanumeric ∷  -- 6U
    row 54 86 0 (Some 38) Alphanumeric ∷  -- 6V
    row 54 87 5 (Some 5) Numeric ∷  -- 6W
    row 54 88 0 (Some 32) Alphabetic ∷  -- 6X
    row 54 89 2 (Some 2) Alphabetic ∷  -- 6Y
    row 54 90 9 (Some 11) Alphanumeric ∷  -- 6Z
    -- section 7.10: academic papers
    row 66 48 0 (Some 60) Alphanumeric ∷  -- B0
    row 66 49 0 (Some 20) Alphanumeric ∷  -- B1
    row 66 50 0 (Some 38) Alphanumeric ∷  -- B2
    row 66 51 0 (Some 38) Alphanumeric ∷  -- B3
    row 66 52 0 (Some 38) Alphanumeric ∷  -- B4
    row 66 53 2 (Some 2) Alphanumeric ∷  -- B5
    row 66 54 1 (Some 1) Alphanumeric ∷  -- B6
    row 66 55 8 (Some 8) Numeric ∷  -- B7
    row 66 56 0 (Some 32) Alphanumeric ∷  -- B8
    row 66 57 2 (Some 2) Alphanumeric ∷  -- B9
    row 66 65 1 (Some 1) Numeric ∷  -- BA
    row 66 66 0 (Some 50) Alphanumeric ∷  -- BB
    row 66 67 0 (Some 20) Alphanumeric ∷  -- BC
    row 66 68 1 (Some 1) Numeric ∷  -- BD
    row 66 69 3 (Some 3) Numeric ∷  -- BE
    row 66 70 3 (Some 3) Numeric ∷  -- BF
    row 66 71 2 (Some 2) Alphanumeric ∷  -- BG
    row 66 72 0 (Some 30) Alphanumeric ∷  -- BH
    row 66 73 0 (Some 30) Alphanumeric ∷  -- BI
    row 66 74 0 (Some 30) Alphanumeric ∷  -- BJ
    row 66 75 14 (Some 14) Alphanumeric ∷  -- BK
    []

-- how many there are
abbrev pub row_count : ℕ
row_count = 110
