-- The largest of the shortest: a greedy choice, codeword by codeword, over the costs.
use Rattle.std.specs.Prelude.{ℕ, zero, suc, ◌+◌, ◌-◌, ◌*◌, ◌/◌, ◌%◌, min, Bool, true, false, not, ◌&&◌, List, [], ◌∷◌, ◌++◌, ltb, leb}
use Rattle.refusal.specs.Pick.{pick}
use Rattle.codeword.specs.declared.Set.{Set}
use Rattle.codeword.specs.declared.Set.TheVariants.{Basic, Set1, Set2, Set3}
use Rattle.codeword.specs.Characters.{set_of, number_of}
use Rattle.codeword.specs.Meanings.{unfinished}
use Rattle.codeword.specs.Pads.{pad_at}
use Rattle.codeword.specs.Reading.{Mode, in_ascii, in_c40}
use Rattle.optimum.specs.Cost.{State, asc, d0, d1, digit, cost}

unfoldable pub odd : ℕ → Bool
odd zero = false
odd (suc n) = not (odd n)

-- the state st may be entered at the text t with n codewords left
abbrev pub fits : Bool → List ℕ → State → ℕ → Bool
fits b t st n = leb (cost b t st (odd n)) n

-- a value, the set that it leaves, and the text behind it
pub data Step : Type 0 where
  val : ℕ → Set → List ℕ → Step
  stuck : Step

abbrev pub next_in : Set → ℕ → List ℕ → Step
next_in Basic c t = val (number_of c) Basic t
next_in Set1 c t = val 0 Set1 (c ∷ t)
next_in Set2 c t = val 1 Set2 (c ∷ t)
next_in Set3 c t = val 2 Set3 (c ∷ t)

-- the value that comes next
unfoldable pub next : Set → List ℕ → Step
next s [] = stuck
next Basic (c ∷ t) = next_in (set_of c) c t
next Set1 (c ∷ t) = val (number_of c) Basic t
next Set2 (c ∷ t) = val (number_of c) Basic t
next Set3 (c ∷ t) = val (number_of c) Basic t

-- the pair's last value: the next one if the n codewords behind the pair do, and else the filler
abbrev pub third_in : Bool → ℕ → Set → ℕ → List ℕ → Step
third_in b n Basic c t = pick (fits b t d0 n) (val (number_of c) Basic t) (val 0 Set1 (c ∷ t))
third_in b n Set1 c t = val 0 Set1 (c ∷ t)
third_in b n Set2 c t = pick (fits b t d1 n) (val 1 Set2 (c ∷ t)) (val 0 Set1 (c ∷ t))
third_in b n Set3 c t = pick (fits b t d1 n) (val 2 Set3 (c ∷ t)) (val 0 Set1 (c ∷ t))

unfoldable pub third : Bool → ℕ → Set → List ℕ → Step
third b n Basic [] = val 0 Set1 []
third b n Basic (c ∷ t) = third_in b n (set_of c) c t
third b n Set1 [] = stuck
third b n Set1 (c ∷ t) = val (number_of c) Basic t
third b n Set2 [] = stuck
third b n Set2 (c ∷ t) = val (number_of c) Basic t
third b n Set3 [] = stuck
third b n Set3 (c ∷ t) = val (number_of c) Basic t

-- one move: a codeword or two, the mode after it and the text that is left
pub data Move : Type 0 where
  one : ℕ → Mode → List ℕ → Move
  two : ℕ → ℕ → Mode → List ℕ → Move
  none : Move

abbrev pub on_step : Step → (ℕ → Set → List ℕ → Move) → Move
on_step (val v s t) k = k v s t
on_step stuck k = none

abbrev pub pack : ℕ → ℕ → ℕ → ℕ
pack x y z = 1600 * x + 40 * y + z + 1

-- a pair, with n codewords behind it
unfoldable pub pair : Bool → ℕ → Set → List ℕ → Move
pair b n s t =
    on_step (next s t) λ x s₁ t₁. on_step (next s₁ t₁) λ y s₂ t₂. on_step (third b n s₂ t₂) λ z s₃ t₃.
    two (pack x y z / 256) (pack x y z % 256) (in_c40 s₃) t₃

-- a character, or two digits where the n codewords behind them do
abbrev pub character : Bool → ℕ → List ℕ → Move
character b n [] = none
character b n (c ∷ []) = one (suc c) in_ascii []
character b n (c ∷ d ∷ t) =
    pick (digit c && digit d && fits b t asc n) (one (130 + (10 * (c - 48) + (d - 48))) in_ascii t) (one (suc c) in_ascii (d ∷ t))

abbrev pub last_one : List ℕ → Move
last_one [] = one 254 in_ascii []
last_one (c ∷ t) = one (suc c) in_ascii t

-- the move with n codewords left, in front of b's end (`true`: a pad follows)
unfoldable pub move : Bool → ℕ → Mode → List ℕ → Move
move b zero m t = none
move b (suc n) in_ascii t = pick (fits b t d0 n) (one 230 (in_c40 Basic) t) (character b n t)
move false (suc zero) (in_c40 s) t = last_one t
move true (suc zero) (in_c40 s) t = one 254 in_ascii t
move b (suc (suc n)) (in_c40 s) t = pick (not (unfinished s) && fits b t asc (suc n)) (one 254 in_ascii t) (pair b n s t)

abbrev pub run : Move → (k₁ k₂ : Mode → List ℕ → List ℕ) → List ℕ
run (one w m t) k₁ k₂ = w ∷ k₁ m t
run (two v w m t) k₁ k₂ = v ∷ w ∷ k₂ m t
run none k₁ k₂ = []

-- n codewords for the text
unfoldable pub write : Bool → ℕ → Mode → List ℕ → List ℕ
write b zero m t = []
write b (suc zero) m t = run (move b 1 m t) (λ m t. []) (λ m t. [])
write b (suc (suc n)) m t = run (move b (suc (suc n)) m t) (write b (suc n)) (write b n)

-- the least count of codewords in front of a pad
abbrev pub fewest : List ℕ → ℕ
fewest t = min (cost true t asc false) (cost true t asc true)

-- the capacity, the codewords before the pads, and whether there is a pad
pub data Choice : Type 0 where
  at : ℕ → ℕ → Bool → Choice
  nothing : Choice

unfoldable pub choose : List ℕ → ℕ → List ℕ → Choice
choose [] max t = nothing
choose (c ∷ l) max t =
    pick (ltb max c) nothing
    (pick (ltb (fewest t) c) (at c (fewest t) true) (pick (fits false t asc c) (at c c false) (choose l max t)))

-- the pads of a symbol of `left` places more, the first at the place i
abbrev pub padding : (first i left : ℕ) → List ℕ
padding n i zero = []
padding n i (suc left) = pad_at n i ∷ padding n (suc i) left

abbrev pub symbol_of : Choice → List ℕ → List ℕ
symbol_of (at c n b) t = write b n in_ascii t ++ padding n n (c - n)
symbol_of nothing t = []
