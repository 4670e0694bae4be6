-- The reading of a symbol: document 01, "From codewords to text", with the numbers and the places of its refusals.
use Rattle.std.specs.Prelude.{ℕ, zero, suc, Bool, true, false, List, [], ◌∷◌, ltb, leb, eqb, length, Option, Some, None}
use Rattle.refusal.specs.Limits.{limit}
use Rattle.refusal.specs.Pick.{pick}
use Rattle.refusal.specs.Numbers.{count_no_capacity, forbidden_codeword, pair_outside, wrong_value, text_too_long, lent_too_short, wrong_pad}
use Rattle.codeword.specs.declared.Set.{Set}
use Rattle.codeword.specs.declared.Set.TheVariants.{Basic}
use Rattle.codeword.specs.declared.Value.{Value}
use Rattle.codeword.specs.declared.Value.TheVariants.{Char, Shift, Unused}
use Rattle.codeword.specs.declared.Ascii.{Ascii}
use Rattle.codeword.specs.declared.Ascii.TheVariants.{One, Two, Latch, Pad, Wrong}
use Rattle.codeword.specs.declared.Lone.{Lone}
use Rattle.codeword.specs.declared.Lone.TheVariants.{Ends, Last, Bad}
use Rattle.codeword.specs.Meanings.{ascii, lone, pair, value, unfinished}
use Rattle.codeword.specs.Sizes.{is_capacity}
use Rattle.codeword.specs.Pads.{first_wrong}

-- What reading gives from a codeword on: the text, how many codewords stand before the first pad, and whether there is a pad;
-- or the number of a refusal, and how many codewords further on its place is.
pub data Reading : Type 0 where
  good : (text : List ℕ) (used : ℕ) (padded : Bool) → Reading
  refused : (number place : ℕ) → Reading

-- a character in front of what the rest gives
abbrev pub cons : ℕ → Reading → Reading
cons c (good t n b) = good (c ∷ t) n b
cons c (refused k p) = refused k p

-- what the rest gives, seen from one codeword before it
abbrev pub tick : Reading → Reading
tick (good t n b) = good t (suc n) b
tick (refused k p) = refused k (suc p)

-- THE STEPS. Each depends on the room: so many characters more may come.
abbrev pub Step : Type 0
Step = (room : ℕ) → Reading

-- here the text ends, with n codewords read from here on
abbrev pub end : (n : ℕ) (padded : Bool) → Step
end n b room = good [] n b

-- here is a refusal
abbrev pub refuse : (number : ℕ) → Step
refuse k room = refused k 0

-- the rest stands one codeword further on
abbrev pub behind : Step → Step
behind rest room = tick (rest room)

-- one more character; 5 is given at the 1,001st
abbrev pub give : ℕ → Step → Step
give c rest zero = refused text_too_long 0
give c rest (suc room) = cons c (rest room)

-- one more value; the rest is read in the set that it leaves
abbrev pub put : Value → (Set → Step) → Step
put (Char c) rest = give c (rest Basic)
put (Shift s) rest = rest s
put Unused rest = refuse wrong_value

-- where a shift may wait with nothing after it: at codeword 254, at the lone last codeword or at the end
abbrev pub finish : Set → Step → Step
finish s rest = pick (unfinished s) (refuse wrong_value) rest

-- a codeword in ASCII mode, with what the rest gives in ASCII mode and in C40 mode
abbrev pub on_ascii : Ascii → (in-ascii in-c40 : Step) → Step
on_ascii (One c) a l = give c (behind a)
on_ascii (Two c d) a l = give c (give d (behind a))
on_ascii Latch a l = behind l
on_ascii Pad a l = end 0 true
on_ascii Wrong a l = refuse forbidden_codeword

-- the lone last codeword in C40 mode
abbrev pub on_lone : Lone → Step
on_lone Ends = end 1 false
on_lone (Last c) = give c (end 1 false)
on_lone Bad = refuse forbidden_codeword

-- a pair in C40 mode and the set of its first value: three values, and the rest stands two codewords further on; or a refusal
abbrev pub on_pair : Option (ℕ × ℕ × ℕ) → Set → (Set → Step) → Step
on_pair (Some (x, y, z)) s rest =
    put (value s x) (λ s₁. put (value s₁ y) (λ s₂. put (value s₂ z) (λ s₃. behind (behind (rest s₃)))))
on_pair None s rest = refuse pair_outside

pub data Mode : Type 0 where
  in_ascii : Mode
  in_c40 : Set → Mode

-- THE CODEWORDS FROM ONE ON, in a mode. In C40 mode, two or more left, 254 returns to ASCII: otherwise take a and b.
unfoldable pub read : List ℕ → Mode → Step
read [] in_ascii = end 0 false
read [] (in_c40 s) = finish s (end 0 false)
read (w ∷ ws) in_ascii = on_ascii (ascii w) (read ws in_ascii) (read ws (in_c40 Basic))
read (a ∷ []) (in_c40 s) = finish s (on_lone (lone a))
read (a ∷ b ∷ ws) (in_c40 s) =
    pick (eqb a 254) (finish s (behind (read (b ∷ ws) in_ascii))) (on_pair (pair a b) s (λ s'. read ws (in_c40 s')))

-- what the codewords up to the first pad say, where the lent text has so many bytes. Order: 1, 6, then left to right.
unfoldable pub read_to_pad : (codewords : List ℕ) (lent : ℕ) → Reading
read_to_pad codewords lent =
    pick (is_capacity (length codewords))
    (pick (leb limit lent) (read codewords in_ascii limit) (refused lent_too_short 0))
    (refused count_no_capacity 0)

-- after the whole text has been read without refusal, every pad must be what the padding rule gives
abbrev pub checked : (codewords : List ℕ) → Reading → Reading
checked ws (good t n b) = pick (ltb (first_wrong n ws) (length ws)) (refused wrong_pad (first_wrong n ws)) (good t n b)
checked ws (refused k p) = refused k p

-- WHAT A SYMBOL SAYS. Order: 1, 6, then left to right, then 39 at the first wrong pad.
unfoldable pub read_symbol : (codewords : List ℕ) (lent : ℕ) → Reading
read_symbol codewords lent = checked codewords (read_to_pad codewords lent)
