-- Records side by side, one by one: the room of those passed and what writing the others answers make up the whole.
-- Assumes nothing.
use Rattle.std.proofs.Common.{ℕ, suc, ◌≡◌, ◌+◌, ◌≤◌, ◌<◌, List, [], ◌∷◌, ◌++◌, length, get_or, take, drop, drop-cons, length-append, add-one, zero-add, arith, refl, ap, ◌∙◌}
use Rattle.std.proofs.Math.ListN.{drop_of_length-le}
use Rattle.std.proofs.Math.Seq.{take-suc}
use Rattle.refusal.specs.Answers.{Answer, good, refused, ◌>>=◌}
use Rattle.refusal.specs.Said.{turned}
use Rattle.dictionary.specs.inner.Lookup.{no_field}
use Rattle.dictionary.specs.Rows.{rows}
use Rattle.dictionary.specs.declared.Field.{Field}
use Rattle.text.specs.Text.{write_field, write_zone}

from_none : (x : Answer (List ℕ)) → turned (λ l. 0 + length l) x ≡ turned length x
from_none (good l) = ap good (zero-add (length l))
from_none (refused k p) = refl

one_behind : (room : ℕ) (x y : Answer (List ℕ)) → turned (λ l. room + length l) (x >>= λ a. y >>= λ b. good (a ++ b)) ≡ (turned length x >>= λ n. turned (λ l. (room + n) + length l) y)
one_behind room (good a) (good b) = ap good (omega (arith, length-append a b))
one_behind room (good a) (refused k p) = refl
one_behind room (refused k p) y = refl

module _ (source : List ℕ) (fields : List Field) where
  -- the room so far, and what writing the records from the i-th on answers
  unfoldable pub behind : (room i : ℕ) → Answer ℕ
  behind room i = turned (λ l. room + length l) (write_zone rows source (take i fields) (length (take i fields)) (drop i fields))

  pub start : behind 0 0 ≡ turned length (write_zone rows source [] 0 fields)
  unfolding behind
  start = from_none (write_zone rows source [] 0 fields)

  pub next : (room i : ℕ) → i < length fields → behind room i ≡ (turned length (write_field rows source (take i fields) (length (take i fields)) (get_or fields i no_field)) >>= λ n. behind (room + n) (i + 1))
  unfolding behind write_zone
  next room i h =
      let more : take (suc i) fields ≡ take i fields ++ (get_or fields i no_field ∷ []) = take-suc fields i no_field h in
      let long : length (take (suc i) fields) ≡ suc (length (take i fields)) = ap length more ∙ omega (arith, length-append (take i fields) (get_or fields i no_field ∷ [])) in
      rw (drop-cons fields i no_field h, add-one i, long, more) (one_behind room (write_field rows source (take i fields) (length (take i fields)) (get_or fields i no_field)) (write_zone rows source (take i fields ++ (get_or fields i no_field ∷ [])) (suc (length (take i fields))) (drop (suc i) fields)))

  pub stop : (room i : ℕ) → length fields ≤ i → behind room i ≡ good room
  unfolding behind write_zone
  stop room i h = rw (drop_of_length-le fields {i = i} h) (ap good (omega arith))
