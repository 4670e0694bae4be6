-- Where a character, 0 to 127, stands in C40: its set and its number there, by the ranges of document 01, "From codewords to text",
-- in the paper's order. This is `value` turned round (proofs/Characters).
use Rattle.std.specs.Prelude.{ℕ, ◌+◌, ◌-◌, Bool, ◌&&◌, leb, eqb}
use Rattle.refusal.specs.Pick.{pick}
use Rattle.codeword.specs.declared.Set.{Set}
use Rattle.codeword.specs.declared.Set.TheVariants.{Basic, Set1, Set2, Set3}

abbrev pub between : (first last : ℕ) → ℕ → Bool
between first last c = leb first c && leb c last

-- Basic set: the space (32), 0 to 9 (48 to 57), A to Z (65 to 90). Set 1: 0 to 31. Set 2: 33 to 47, 58 to 64, 91 to 95. Set 3: 96 to 127.
unfoldable pub set_of : ℕ → Set
set_of c =
    pick (eqb c 32) Basic
    (pick (between 48 57 c) Basic
    (pick (between 65 90 c) Basic
    (pick (between 0 31 c) Set1
    (pick (between 33 47 c) Set2
    (pick (between 58 64 c) Set2
    (pick (between 91 95 c) Set2 Set3))))))

-- Basic set: 3 is the space, from 4 on 0 to 9, from 14 on A to Z. Set 1: from 0 on. Set 2: from 0, 15 and 22 on. Set 3: from 0 on.
unfoldable pub number_of : ℕ → ℕ
number_of c =
    pick (eqb c 32) 3
    (pick (between 48 57 c) (4 + (c - 48))
    (pick (between 65 90 c) (14 + (c - 65))
    (pick (between 0 31 c) c
    (pick (between 33 47 c) (c - 33)
    (pick (between 58 64 c) (15 + (c - 58))
    (pick (between 91 95 c) (22 + (c - 91)) (c - 96)))))))
