-- The least number of codewords, of each parity, from each state of the writer to the end of the text, by recursion on the text.
use Rattle.std.specs.Prelude.{ℕ, suc, ◌+◌, min, Bool, true, false, not, List, [], ◌∷◌, ltb}
use Rattle.refusal.specs.Pick.{pick}
use Rattle.codeword.specs.declared.Set.{Set}
use Rattle.codeword.specs.declared.Set.TheVariants.{Basic, Set1, Set2, Set3}
use Rattle.codeword.specs.Characters.{set_of}

-- asc: in ASCII mode. dig: behind the first digit of two. d0, d1, d2: in C40 mode, with so many values in the pair.
-- fil: behind a filler. fin: at the very end
pub data State : Type 0 where
  asc dig d0 d1 d2 fil fin : State

-- more than any capacity
abbrev pub inf : ℕ
inf = 8192

unfoldable pub digit : ℕ → Bool
digit c = pick (ltb c 48) false (ltb c 58)

-- a character takes one value in the basic set, and two in the others
abbrev pub forms : Set → (one two : ℕ) → ℕ
forms Basic x y = x
forms Set1 x y = y
forms Set2 x y = y
forms Set3 x y = y

-- at the end of the text: `true` where a pad follows, `true` for an odd count
unfoldable pub base : (padded : Bool) → State → (odd : Bool) → ℕ
base b asc false = 0
base b asc true = pick b inf 1
base b dig p = inf
base b d0 false = pick b inf 0
base b d0 true = 1
base b d1 p = inf
base b d2 false = pick b (suc (suc inf)) 2
base b d2 true = 3
base b fil false = pick b inf 0
base b fil true = 1
base b fin false = pick b inf 0
base b fin true = inf

-- in front of a character: by a character or two digits, and by a value or the lone last codeword
unfoldable pub chars : ℕ → (State → Bool → ℕ) → Bool → ℕ
chars c k p = min (suc (k asc (not p))) (pick (digit c) (suc (k dig (not p))) inf)

unfoldable pub pairs : ℕ → (State → Bool → ℕ) → Bool → ℕ
pairs c k p = min (suc (k fin (not p))) (forms (set_of c) (k d1 p) (k d2 p))

abbrev pub asc_b : ℕ → (State → Bool → ℕ) → Bool → ℕ
asc_b c k p = min (chars c k p) (suc (pairs c k (not p)))

abbrev pub fil_b : ℕ → (State → Bool → ℕ) → Bool → ℕ
fil_b c k p = min (suc (asc_b c k (not p))) (suc (k fin (not p)))

-- the costs in front of the character c, where k are those behind it
unfoldable pub before : ℕ → (State → Bool → ℕ) → State → Bool → ℕ
before c k asc p = asc_b c k p
before c k dig p = pick (digit c) (k asc p) inf
before c k d0 p = min (suc (chars c k (not p))) (pairs c k p)
before c k d1 p = forms (set_of c) (k d2 p) (2 + k d0 p)
before c k d2 p = 2 + min (fil_b c k p) (forms (set_of c) (k d0 p) (k d1 p))
before c k fil p = fil_b c k p
before c k fin p = inf

unfoldable pub cost : (padded : Bool) → List ℕ → State → (odd : Bool) → ℕ
cost b [] = base b
cost b (c ∷ t) = before c (cost b t)
