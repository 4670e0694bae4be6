-- What printing the check words answers, and what it leaves in the lent list: document 02, K3.
use Rattle.std.specs.Prelude.{ℕ, ◌+◌, List, ◌++◌, ◌≡◌, leb, length}
use Rattle.refusal.specs.Answers.{Answer, good, refused, ◌>>◌, check}
use Rattle.std.specs.declared.result.Result.{Result}
use Rattle.refusal.specs.declared.Refusal.{Refusal}
use Rattle.refusal.specs.Said.{says}
use Rattle.refusal.specs.Numbers.{count_no_capacity, lent_too_short, several_blocks}
use Rattle.refusal.specs.Over.{over}
use Rattle.codeword.specs.Sizes.{is_capacity}
use Rattle.galois.specs.Polynomial.{Right, Bytes}
use Rattle.check_words.specs.Sizes.{most_data, check_count}

-- the words of the list, data and check words, for n data codewords and so much room
unfoldable pub words_of : (n room : ℕ) → Answer ℕ
words_of n room = do
  check (is_capacity n) count_no_capacity 0
  check (leb n most_data) several_blocks 0
  check (leb (n + check_count n) room) lent_too_short 0
  good (n + check_count n)

-- the list is the data and behind them k check words, with which it is right; what lies behind it is as it was
pub record Listed (k : ℕ) (ds old new : List ℕ) : Type 0 where
  pub checks : List ℕ
  pub number : length checks ≡ k
  pub bytes : Bytes checks
  pub right : Right k (ds ++ checks)
  pub list : new ≡ over (ds ++ checks) old

-- a refusal leaves all
abbrev pub Left : Answer ℕ → (ds old new : List ℕ) → Type 0
Left (good m) ds old new = Listed (check_count (length ds)) ds old new
Left (refused k p) ds old new = new ≡ old

-- what printing promises, of its answer and of the lent list
abbrev pub Promised : (ds old new : List ℕ) → Result ℕ Refusal → Type 0
Promised ds old new r = (says r ≡ words_of (length ds) (length old)) × Left (words_of (length ds) (length old)) ds old new
