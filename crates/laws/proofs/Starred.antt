-- THE STARRED SAMPLES of document 01, one table: symbols written, as the best of all (the theorem of crate `optimum`, with the choice and the
-- codewords computed), symbols read and zones, computed over the definitions. With them ABCD within the size 3, and AIMAIMAIM.
-- Assumes nothing.
use mathlib.Core.Bool.{false}
use mathlib.Core.List.{[], ◌∷◌, map}
use mathlib.Core.Path.{◌≡◌, refl}
use Prim.Native.Nat.{ℕ}
use native.Mathlib.Omega.{arith}
use Rattle.refusal.specs.Answers as Answers
use Rattle.refusal.specs.Limits.{limit, most_fields}
use Rattle.refusal.specs.Numbers.{pair_outside, wrong_value, zone_ends_inside, unknown_identifier}
use Rattle.refusal.specs.Among.{among}
use Rattle.codeword.specs.Meanings.{ascii, lone, pair, value, unfinished}
use Rattle.codeword.specs.Sizes.{capacities}
use Rattle.codeword.specs.Reading.{good, refused, read, read_to_pad, read_symbol}
use Rattle.codeword.specs.Characters.{set_of, number_of}
use Rattle.codeword.specs.Pads.{pad_at, wrong_from, first_wrong}
use Rattle.codeword.specs.Best.{Best, NoneFits}
use Rattle.optimum.specs.Cost.{digit, base, chars, pairs, before, cost}
use Rattle.optimum.specs.Write as Write
use Rattle.optimum.specs.Write.{odd, next, third, move, write, choose}
use Rattle.optimum.proofs.Top.{right}
use Rattle.std.specs.Prelude.{Some}
use Rattle.dictionary.specs.Dictionary.{Dictionary, allowed, find}
use Rattle.dictionary.specs.declared.Kind.TheVariants.{Numeric, Alphabetic, Alphanumeric}
use Rattle.dictionary.specs.declared.Field.{Field}
use Rattle.text.specs.Zone.{does, read_data, zone}

-- 6Q, 6W, 6X, 6Y, 6Z, as the paper gives them here
abbrev five : Dictionary
five =
    record { first = 54; second = 81; least = 0; greatest = Some 10; kind = Alphanumeric }
    ∷ record { first = 54; second = 87; least = 5; greatest = Some 5; kind = Numeric }
    ∷ record { first = 54; second = 88; least = 0; greatest = Some 32; kind = Alphabetic }
    ∷ record { first = 54; second = 89; least = 2; greatest = Some 2; kind = Alphabetic }
    ∷ record { first = 54; second = 90; least = 9; greatest = Some 11; kind = Alphanumeric }
    ∷ []

abbrev field : (row start length : ℕ) → Field
field r s n = record { row = r; start = s; length = n; cut = false }

pub record Starred : Type 0 where
  -- Symbols written, largest size 1558: empty text, 123456, ABC, AB, ABCD, AIMAIMAIM. ABCD with largest size 3: refused 9.
  pub empty : Best [] 1558 (129 ∷ 175 ∷ 70 ∷ [])
  pub digits : Best (49 ∷ 50 ∷ 51 ∷ 52 ∷ 53 ∷ 54 ∷ []) 1558 (142 ∷ 164 ∷ 186 ∷ [])
  pub abc : Best (65 ∷ 66 ∷ 67 ∷ []) 1558 (230 ∷ 89 ∷ 233 ∷ [])
  pub ab : Best (65 ∷ 66 ∷ []) 1558 (66 ∷ 67 ∷ 129 ∷ [])
  pub abcd : Best (65 ∷ 66 ∷ 67 ∷ 68 ∷ []) 1558 (66 ∷ 67 ∷ 68 ∷ 69 ∷ 129 ∷ [])
  pub aim : Best (65 ∷ 73 ∷ 77 ∷ 65 ∷ 73 ∷ 77 ∷ 65 ∷ 73 ∷ 77 ∷ []) 1558 (230 ∷ 91 ∷ 11 ∷ 91 ∷ 11 ∷ 91 ∷ 11 ∷ 254 ∷ [])
  pub abcd_in_3 : NoneFits (65 ∷ 66 ∷ 67 ∷ 68 ∷ []) 3
  -- Symbols read: A(29), AB, ZZZ; 230 250 1 and 230 0 0 refused 3; 230 89 218 refused 4 at place 3.
  pub symbols : map (λ codewords. read_symbol codewords limit)
      ((230 ∷ 87 ∷ 158 ∷ [])
      ∷ (230 ∷ 89 ∷ 217 ∷ [])
      ∷ (230 ∷ 250 ∷ 0 ∷ [])
      ∷ (230 ∷ 250 ∷ 1 ∷ [])
      ∷ (230 ∷ 0 ∷ 0 ∷ [])
      ∷ (230 ∷ 89 ∷ 218 ∷ [])
      ∷ [])
      ≡ good (65 ∷ 29 ∷ []) 3 false
      ∷ good (65 ∷ 66 ∷ []) 3 false
      ∷ good (90 ∷ 90 ∷ 90 ∷ []) 3 false
      ∷ refused pair_outside 1
      ∷ refused pair_outside 1
      ∷ refused wrong_value 3
      ∷ []
  -- Zones: 6XPARIS(29)6YFR and 6Q01234567896YFR are two fields; with a (29) before 6Y it is refused 16; 6XPARIS is refused 17.
  pub zones : map (zone five most_fields [] 0)
      ((54 ∷ 88 ∷ 80 ∷ 65 ∷ 82 ∷ 73 ∷ 83 ∷ 29 ∷ 54 ∷ 89 ∷ 70 ∷ 82 ∷ [])
      ∷ (54 ∷ 81 ∷ 48 ∷ 49 ∷ 50 ∷ 51 ∷ 52 ∷ 53 ∷ 54 ∷ 55 ∷ 56 ∷ 57 ∷ 54 ∷ 89 ∷ 70 ∷ 82 ∷ [])
      ∷ (54 ∷ 81 ∷ 48 ∷ 49 ∷ 50 ∷ 51 ∷ 52 ∷ 53 ∷ 54 ∷ 55 ∷ 56 ∷ 57 ∷ 29 ∷ 54 ∷ 89 ∷ 70 ∷ 82 ∷ [])
      ∷ (54 ∷ 88 ∷ 80 ∷ 65 ∷ 82 ∷ 73 ∷ 83 ∷ [])
      ∷ [])
      ≡ Answers.good (field 2 2 5 ∷ field 3 10 2 ∷ [])
      ∷ Answers.good (field 0 2 10 ∷ field 3 14 2 ∷ [])
      ∷ Answers.refused unknown_identifier 12
      ∷ Answers.refused zone_ends_inside 0
      ∷ []

pub starred : Starred
unfolding choose capacities write move Write.pair next third number_of odd cost base before chars pairs set_of digit pad_at unfinished read_symbol read_to_pad first_wrong wrong_from read value ascii lone pair among zone find read_data does allowed
starred =
    record {
      empty = right [] tt (omega arith) 1558;
      digits = right (49 ∷ 50 ∷ 51 ∷ 52 ∷ 53 ∷ 54 ∷ []) (omega arith) (omega arith) 1558;
      abc = right (65 ∷ 66 ∷ 67 ∷ []) (omega arith) (omega arith) 1558;
      ab = right (65 ∷ 66 ∷ []) (omega arith) (omega arith) 1558;
      abcd = right (65 ∷ 66 ∷ 67 ∷ 68 ∷ []) (omega arith) (omega arith) 1558;
      aim = right (65 ∷ 73 ∷ 77 ∷ 65 ∷ 73 ∷ 77 ∷ 65 ∷ 73 ∷ 77 ∷ []) (omega arith) (omega arith) 1558;
      abcd_in_3 = right (65 ∷ 66 ∷ 67 ∷ 68 ∷ []) (omega arith) (omega arith) 3;
      symbols = refl;
      zones = refl;
    }
