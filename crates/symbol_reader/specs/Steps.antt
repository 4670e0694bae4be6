-- What the inner functions answer, in the words of the one definition of reading: with the text so far and the place in front.
use Rattle.std.specs.Prelude.{ℕ, ◌+◌, ◌-◌, List, ◌++◌, length, Result, Ok, Err}
use Rattle.refusal.specs.Limits.{limit}
use Rattle.refusal.specs.Answers.{Answer, good, refused}
use Rattle.refusal.specs.Said.{number_of, says, turned}
use Rattle.refusal.specs.declared.Refusal.{Refusal}
use Rattle.codeword.specs.Reading as paper
use Rattle.codeword.specs.Reading.{Reading, Step}

-- the text and the codewords before the first pad, or a refusal
abbrev pub Read : Type 0
Read = Answer (List ℕ × ℕ)

-- what reading on gives, with the text so far and the place in front
abbrev pub after : List ℕ → (place : ℕ) → Reading → Read
after t p (paper.good u n b) = good (t ++ u, p + n)
after t p (paper.refused k q) = refused k (p + q)

abbrev pub reads : List ℕ → (place : ℕ) → Step → Read
reads t p step = after t p (step (limit - length t))

-- what a character or a value leads to, with `rest` to come: it may be a refusal
abbrev pub leads : {A : Type 0} → Result A Refusal → List ℕ → (place : ℕ) → (A → Step) → Read
leads (Ok a) t p rest = reads t p (rest a)
leads {A} (Err f) t p rest = refused (number_of f.reason) f.place

-- what a reader's answer says, with the text that it left
abbrev pub answers : Result ℕ Refusal → List ℕ → Read
answers r t = turned (λ n. (t, n)) (says r)
