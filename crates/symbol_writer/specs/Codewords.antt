-- What writing the codewords leaves of the output.
use Rattle.std.specs.Prelude.{ℕ, ◌+◌, ◌≤◌, List, ◌++◌, ◌≡◌, length, drop, set}
use Rattle.symbol_writer.specs.declared.moves.Codewords.{Codewords}
use Rattle.symbol_writer.specs.declared.moves.Codewords.TheVariants.{One, Two}

abbrev pub put_words : Codewords → (at : ℕ) → List ℕ → List ℕ
put_words (One w) k l = set l k w
put_words (Two v w) k l = set (set l k v) (k + 1) w

-- the codewords ws, at most n, stand in front; behind them the output is as it was
pub record Put (ws : List ℕ) (n : ℕ) (old new : List ℕ) (done : ℕ) : Type 0 where
  pub count : done ≡ length ws
  pub few : done ≤ n
  pub is : new ≡ ws ++ drop done old
