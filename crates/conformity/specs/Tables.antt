-- The tables of source document 001 that conformity covers: section 8.1 for the types 00, 01 and 02, section 8.7 for B0 and B1.
-- A line is an identifier and its marks in the order of the columns.
use Rattle.std.specs.Prelude.{ℕ, List, [], ◌∷◌}
use Rattle.refusal.specs.Answers.{Answer, good, refused}
use Rattle.dictionary.specs.Dictionary.{Numbered, find}
use Rattle.dictionary.specs.Rows.{rows, row_count}

-- mandatory, optional, and not permitted, which the tables write as a dash
pub data Mark : Type 0 where
  O : Mark
  F : Mark
  no : Mark

pub record Line : Type 0 where
  pub row : ℕ
  pub marks : List Mark

-- the number of the row with an identifier
abbrev number_in : Answer Numbered → ℕ
number_in (good n) = n.number
number_in (refused k p) = row_count

unfoldable pub row_of : (a b : ℕ) → ℕ
row_of a b = number_in (find a b 0 0 rows)

abbrev three : (a b : ℕ) → Mark → Mark → Mark → Line
three a b x y z = record { row = row_of a b; marks = x ∷ y ∷ z ∷ [] }

abbrev two : (a b : ℕ) → Mark → Mark → Line
two a b x y = record { row = row_of a b; marks = x ∷ y ∷ [] }

-- section 8.1, proofs of address: 00, 01, 02
unfoldable pub domicile : List Line
domicile =
    three 49 48 O O O ∷  -- 10, with the footnote *
    three 49 49 O O O ∷  -- 11, with the footnote *
    three 49 50 O O O ∷  -- 12, with the footnote *
    three 49 51 O O O ∷  -- 13, with the footnote *
    three 49 52 no F no ∷  -- 14
    three 49 53 no F no ∷  -- 15
    three 49 54 no F no ∷  -- 16
    three 49 55 no F no ∷  -- 17
    three 49 56 no F no ∷  -- 18
    three 49 57 no F no ∷  -- 19
    three 49 65 no F no ∷  -- 1A
    three 49 66 no F no ∷  -- 1B
    three 49 67 no F no ∷  -- 1C
    three 49 68 no F no ∷  -- 1D
    three 49 69 no F no ∷  -- 1E
    three 49 70 no F no ∷  -- 1F
    three 49 71 F F F ∷  -- 1G
    three 49 72 no F no ∷  -- 1H
    three 49 73 F F F ∷  -- 1I
    three 49 74 F F F ∷  -- 1J
    three 49 75 F F F ∷  -- 1K
    three 49 76 F F F ∷  -- 1L
    three 49 77 no F no ∷  -- 1M
    three 49 78 no F no ∷  -- 1N
    three 49 79 no F no ∷  -- 1O
    three 49 80 no F no ∷  -- 1P
    three 50 48 O F no ∷  -- 20
    three 50 49 O F no ∷  -- 21
    three 50 50 O O O ∷  -- 22
    three 50 51 O F F ∷  -- 23
    three 50 52 O O O ∷  -- 24
    three 50 53 O F O ∷  -- 25
    three 50 54 O O O ∷  -- 26
    three 50 55 no F no ∷  -- 27
    three 50 56 no F no ∷  -- 28
    three 50 57 no F no ∷  -- 29
    three 50 65 no F no ∷  -- 2A
    three 50 66 no F no ∷  -- 2B
    three 50 67 no F no ∷  -- 2C
    three 50 68 no F no ∷  -- 2D
    []

-- section 8.7, academic papers: B0, B1
unfoldable pub academic : List Line
academic =
    two 66 54 O no ∷  -- B6
    two 66 55 O O ∷  -- B7
    two 66 57 O no ∷  -- B9
    two 66 48 O O ∷  -- B0, with the footnote 6 in the column B0
    two 66 49 O no ∷  -- B1
    two 66 50 O O ∷  -- B2
    two 66 68 O no ∷  -- BD
    two 66 71 O no ∷  -- BG
    two 66 72 O no ∷  -- BH
    two 66 73 O no ∷  -- BI
    two 66 74 O no ∷  -- BJ
    two 66 66 F O ∷  -- BB
    two 66 75 no O ∷  -- BK
    []

-- fields that are interchangeable: all of the one, or all of the other
pub record Exchange : Type 0 where
  pub one : List ℕ
  pub other : List ℕ

-- footnote * of section 8.1: 10, or 11, 12 and 13 together
abbrev pub footnote_star : Exchange
footnote_star = record { one = row_of 49 48 ∷ []; other = row_of 49 49 ∷ row_of 49 50 ∷ row_of 49 51 ∷ [] }

-- footnote 6 of section 8.7, in the column B0: B0 or B1
abbrev pub footnote_6 : Exchange
footnote_6 = record { one = row_of 66 48 ∷ []; other = row_of 66 49 ∷ [] }

-- a section of the dictionary, by its first and its last row
pub record Section : Type 0 where
  pub first : ℕ
  pub last : ℕ

-- 01 to 0D
abbrev pub section_7_0 : Section
section_7_0 = record { first = row_of 48 49; last = row_of 48 68 }

-- B0 to BK
abbrev pub section_7_10 : Section
section_7_10 = record { first = row_of 66 48; last = row_of 66 75 }

-- a type's table: a column of the lines, the sections whose identifiers are optional, and what its footnotes exchange
pub record Table : Type 0 where
  pub lines : List Line
  pub column : ℕ
  pub optional : List Section
  pub exchanges : List Exchange

abbrev pub home : (column : ℕ) → Table
home k = record { lines = domicile; column = k; optional = section_7_0 ∷ []; exchanges = footnote_star ∷ [] }

abbrev pub school : (column : ℕ) → List Exchange → Table
school k x = record { lines = academic; column = k; optional = section_7_0 ∷ section_7_10 ∷ []; exchanges = x }

-- 00, 01, 02, B0, B1
abbrev pub tables : List Table
tables = home 0 ∷ home 1 ∷ home 2 ∷ school 0 (footnote_6 ∷ []) ∷ school 1 [] ∷ []
