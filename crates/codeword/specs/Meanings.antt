-- What codewords and values mean: document 01, "From codewords to text". The answers are the code's own types.
use Rattle.std.specs.Prelude.{ℕ, ◌+◌, ◌-◌, ◌*◌, ◌/◌, ◌%◌, Bool, true, false, ltb, leb, eqb, Option, Some, None}
use Rattle.refusal.specs.Pick.{pick}
use Rattle.codeword.specs.declared.Set.{Set}
use Rattle.codeword.specs.declared.Set.TheVariants.{Basic, Set1, Set2, Set3}
use Rattle.codeword.specs.declared.Value.{Value}
use Rattle.codeword.specs.declared.Value.TheVariants.{Char, Shift, Unused}
use Rattle.codeword.specs.declared.Ascii.{Ascii}
use Rattle.codeword.specs.declared.Ascii.TheVariants.{One, Two, Latch, Pad, Wrong}
use Rattle.codeword.specs.declared.Lone.{Lone}
use Rattle.codeword.specs.declared.Lone.TheVariants.{Ends, Last, Bad}

-- ASCII mode: 1 to 128 is character codeword minus 1; 130 to 229 is two digits, codeword minus 130; 230 latches to C40;
-- 129 ends the text. 0 and 231 to 255 are refused.
unfoldable pub ascii : ℕ → Ascii
ascii w =
    pick (eqb w 0) Wrong
    (pick (leb w 128) (One (w - 1))
    (pick (eqb w 129) Pad
    (pick (leb w 229) (Two (48 + (w - 130) / 10) (48 + (w - 130) % 10)) (pick (eqb w 230) Latch Wrong))))

-- C40 mode, one left: 254 ends, 1 to 128 is that character minus 1, all else is refused.
unfoldable pub lone : ℕ → Lone
lone w = pick (eqb w 254) Ends (pick (eqb w 0) Bad (pick (leb w 128) (Last (w - 1)) Bad))

-- C40 mode, two or more left: v = 256a + b - 1, which must be 0 to 63,999. Values: v / 1600, then v / 40 mod 40, then v mod 40.
unfoldable pub pair : (a b : ℕ) → Option (ℕ × ℕ × ℕ)
pair a b =
    pick (eqb (256 * a + b) 0) None
    (pick (leb (256 * a + b) 64000)
    (Some ((256 * a + b - 1) / 1600, (256 * a + b - 1) / 40 % 40, (256 * a + b - 1) % 40))
    None)

-- Basic set: 0, 1, 2 shift the next value to set 1, 2, 3; 3 is the space; 4 to 13 are 0 to 9; 14 to 39 are A to Z.
-- Set 1: 0 to 31 are characters 0 to 31. Set 2: 0 to 14 are 33 to 47, 15 to 21 are 58 to 64, 22 to 26 are 91 to 95.
-- Set 3: 0 to 31 are 96 to 127. Other values are refused.
unfoldable pub value : Set → ℕ → Value
value Basic v =
    pick (eqb v 0) (Shift Set1)
    (pick (eqb v 1) (Shift Set2)
    (pick (eqb v 2) (Shift Set3)
    (pick (eqb v 3) (Char 32)
    (pick (ltb v 14) (Char (v + 44)) (pick (ltb v 40) (Char (v + 51)) Unused)))))
value Set1 v = pick (ltb v 32) (Char v) Unused
value Set2 v = pick (ltb v 15) (Char (v + 33)) (pick (ltb v 22) (Char (v + 43)) (pick (ltb v 27) (Char (v + 69)) Unused))
value Set3 v = pick (ltb v 32) (Char (v + 96)) Unused

-- A shift 1 with nothing after it is filler and vanishes. A shift 2 or 3 there is refused.
unfoldable pub unfinished : Set → Bool
unfinished Basic = false
unfinished Set1 = false
unfinished Set2 = true
unfinished Set3 = true
