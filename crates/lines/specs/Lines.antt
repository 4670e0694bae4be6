-- The lines of the week in figures (document 02, K9), as bytes: words, numbers in decimal, single spaces between.
use Rattle.std.specs.Prelude.{ℕ, zero, suc, ◌+◌, ◌-◌, ◌/◌, ◌%◌, List, [], ◌∷◌, ◌++◌, ltb, eqb}
use Rattle.refusal.specs.Pick.{pick}

-- room for the lines of 262 counts, 23 bytes at most for each
abbrev pub page : ℕ
page = 6144

-- a number in decimal digits, the first of them no 0 but for 0 itself; it has no more digits than `most` and one
unfoldable pub decimal_of : (most n : ℕ) → List ℕ
decimal_of zero n = (48 + n) ∷ []
decimal_of (suc k) n = pick (ltb n 10) ((48 + n) ∷ []) (decimal_of k (n / 10) ++ ((48 + n % 10) ∷ []))

abbrev pub decimal : ℕ → List ℕ
decimal n = decimal_of n n

-- "type ", and its two characters with a space behind them
abbrev pub type_name : (first second : ℕ) → List ℕ
type_name a b = 116 ∷ 121 ∷ 112 ∷ 101 ∷ 32 ∷ a ∷ b ∷ 32 ∷ []

-- "other "
abbrev pub other_name : List ℕ
other_name = 111 ∷ 116 ∷ 104 ∷ 101 ∷ 114 ∷ 32 ∷ []

-- "refused "
abbrev pub refused_word : List ℕ
refused_word = 114 ∷ 101 ∷ 102 ∷ 117 ∷ 115 ∷ 101 ∷ 100 ∷ 32 ∷ []

-- and the number of the refusal with a space behind it
abbrev pub refused_name : (number : ℕ) → List ℕ
refused_name k = refused_word ++ (decimal k ++ (32 ∷ []))

-- what a count is called: the types 00, 01, 02, B0, B1, all others, and from 6 on the refusals by number
unfoldable pub name_of : (slot : ℕ) → List ℕ
name_of i =
    pick (eqb i 0) (type_name 48 48)
    (pick (eqb i 1) (type_name 48 49)
    (pick (eqb i 2) (type_name 48 50)
    (pick (eqb i 3) (type_name 66 48)
    (pick (eqb i 4) (type_name 66 49)
    (pick (eqb i 5) other_name (refused_name (i - 6)))))))

-- a line for a count above zero
abbrev pub line_of : (slot count : ℕ) → List ℕ
line_of i n = pick (ltb 0 n) (name_of i ++ (decimal n ++ (10 ∷ []))) []

-- THE LINES OF COUNTS, the first of them of the slot i
unfoldable pub lines_of : (i : ℕ) → List ℕ → List ℕ
lines_of i [] = []
lines_of i (n ∷ l) = line_of i n ++ lines_of (suc i) l

-- THE LINE OF A REFUSED FILE: "file ", its place, " refused ", the number
abbrev pub file_line : (place number : ℕ) → List ℕ
file_line p k = (102 ∷ 105 ∷ 108 ∷ 101 ∷ 32 ∷ []) ++ (decimal p ++ ((32 ∷ refused_word) ++ (decimal k ++ (10 ∷ []))))
