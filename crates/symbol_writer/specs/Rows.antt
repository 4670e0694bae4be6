-- What a row of the work slice holds: the costs of the definition, as the code's numbers.
use Rattle.std.specs.Prelude.{ℕ, suc, ◌+◌, ◌*◌, min, ◌≤◌, ◌<◌, Bool, true, false, List, [], ◌∷◌, ◌++◌, ◌≡◌, length, take, drop}
use Rattle.optimum.specs.Cost.{State, asc, dig, d0, d1, d2, fil, fin, inf, cost}
use Rattle.symbol_writer.specs.declared.costs.Least.{Least}
use Rattle.symbol_writer.specs.declared.costs.Costs.{Costs}
use Rattle.symbol_writer.specs.declared.costs.Column.{Column}
use Rattle.symbol_writer.specs.declared.costs.Column.TheVariants as column
use Rattle.codeword.specs.declared.Set.{Set}
use Rattle.codeword.specs.declared.Set.TheVariants.{Basic, Set1, Set2, Set3}

-- The symbol writer is lent a work slice of at least 8,192 sixteen-bit numbers.
abbrev pub work_room : ℕ
work_room = 8192

abbrev pub least_of : (Bool → ℕ) → Least
least_of f = record { even = f false; odd = f true }

abbrev pub least_at : Least → Bool → ℕ
least_at a false = a.even
least_at a true = a.odd

abbrev pub lesser : Least → Least → Least
lesser a b = record { even = min a.even b.even; odd = min a.odd b.odd }

abbrev pub one_more : Least → Least
one_more a = record { even = suc a.odd; odd = suc a.even }

abbrev pub two_more : Least → Least
two_more a = record { even = 2 + a.even; odd = 2 + a.odd }

-- the costs that the code keeps; the filler's is computed from the others
abbrev pub costs_of : (State → Bool → ℕ) → Costs
costs_of k =
    record {
      ascii = least_of (k asc);
      digit = least_of (k dig);
      none = least_of (k d0);
      one = least_of (k d1);
      two = least_of (k d2);
      end = least_of (k fin);
    }

-- the costs again, where they are asked
abbrev pub k_of : Costs → State → Bool → ℕ
k_of k asc p = least_at k.ascii p
k_of k dig p = least_at k.digit p
k_of k d0 p = least_at k.none p
k_of k d1 p = least_at k.one p
k_of k d2 p = least_at k.two p
k_of k fil p = inf
k_of k fin p = least_at k.end p

abbrev pub Below : ℕ → Least → Type 0
Below n a = (a.even < n) × (a.odd < n)

-- the costs leave room for a few more codewords
pub record Low (k : Costs) : Type 0 where
  pub ascii : Below 60000 k.ascii
  pub digit : Below 60000 k.digit
  pub none : Below 60000 k.none
  pub one : Below 60000 k.one
  pub two : Below 60000 k.two
  pub end : Below 60000 k.end

-- a row of the work slice
abbrev pub cells : Costs → List ℕ
cells k = k.ascii.even ∷ k.ascii.odd ∷ k.none.even ∷ k.none.odd ∷ k.one.even ∷ k.one.odd ∷ k.two.even ∷ k.two.odd ∷ []

abbrev pub put_at : List ℕ → ℕ → Costs → List ℕ
put_at w at k = take at w ++ (cells k ++ drop (at + 8) w)

-- the rows hold the costs from the place i on
abbrev pub Rows : (b : Bool) (t w : List ℕ) (i : ℕ) → Type 0
Rows b t w i = (j : ℕ) → i ≤ j → j ≤ length t → take 8 (drop (8 * j) w) ≡ cells (costs_of (cost b (drop j t)))

-- the rest of the work slice is as it was
pub record Filled (b : Bool) (t old w : List ℕ) (i : ℕ) : Type 0 where
  pub long : length w ≡ length old
  pub rest : drop work_room w ≡ drop work_room old
  pub row : Rows b t w i

-- THE COLUMNS of a row
abbrev pub state_of : Column → State
state_of column.Ascii = asc
state_of column.NoValue = d0
state_of column.OneValue = d1

abbrev pub place_in_row : Column → ℕ
place_in_row column.Ascii = 0
place_in_row column.NoValue = 2
place_in_row column.OneValue = 4

abbrev pub column_behind : Set → Column
column_behind Basic = column.NoValue
column_behind Set1 = column.OneValue
column_behind Set2 = column.OneValue
column_behind Set3 = column.OneValue
