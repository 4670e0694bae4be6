-- THE SMALLEST SYMBOL WITH ITS CHECK WORDS, as one statement: where the symbol of a text has at most 174 codewords, what is printed for it
-- is that symbol and behind it the words that make the list right; and there is one such list.
-- Assumes nothing.
use Prim.Native.Nat.{ℕ, ◌+◌, ◌≤◌}
use mathlib.Core.List.{List, ◌++◌}
use mathlib.Core.Path.{◌≡◌, ap, ap₂, sym, subst, ◌∙◌}
use native.Mathlib.Omega.{arith}
use lib.ListN.{length, take, length-append}
use lib.Seq.{take_at}
use Rattle.refusal.specs.Answers.{Answer, good}
use Rattle.codeword.specs.Best.{Best}
use Rattle.optimum.proofs.Symbols.{read_of}
use Rattle.optimum.proofs.Unique.{one_best}
use Rattle.galois.specs.Polynomial.{Right, Bytes}
use Rattle.check_words.specs.Sizes.{most_data, check_count}
use Rattle.std.specs.Prelude.{Ok}
use Rattle.std.specs.declared.result.Result.{Result}
use Rattle.refusal.specs.declared.Refusal.{Refusal}
use Rattle.refusal.proofs.Said.{says_one}
use Rattle.check_words.specs.Answers.{words_of, Left, Listed, Promised}
use Rattle.check_words.proofs.Sizes.{small}
use Rattle.check_words.proofs.Answers.{bytes_of, in_room}
use Rattle.check_words.proofs.Only.{check_only}

-- the list is the best symbol of the text and the check words that belong to it
pub record Printed (t : List ℕ) (largest : ℕ) (list : List ℕ) : Type 0 where
  pub symbol : List ℕ
  pub best : Best t largest symbol
  pub single : length symbol ≤ most_data
  pub checks : List ℕ
  pub number : length checks ≡ check_count (length symbol)
  pub bytes : Bytes checks
  pub right : Right (check_count (length symbol)) (symbol ++ checks)
  pub is : list ≡ symbol ++ checks

module _ (t : List ℕ) (largest : ℕ) where
  -- printing the symbol of the text answers the words of such a list, and leaves it at the front of the lent one
  pub printed : (ws old new : List ℕ) (r : Result ℕ Refusal) → Best t largest ws → length ws ≤ most_data → length ws + check_count (length ws) ≤ length old
      → Promised ws old new r → (r ≡ Ok (length ws + check_count (length ws))) × Printed t largest (take (length ws + check_count (length ws)) new)
  printed ws old new r B single room p = (says_one r (Ok (length ws + check_count (length ws))) (p.0 ∙ good_answer), front (subst (λ (a : Answer ℕ). Left a ws old new) good_answer p.1))
    where
      good_answer : words_of (length ws) (length old) ≡ good (length ws + check_count (length ws))
      good_answer = in_room (length ws) (length old) (read_of t ws B.symbol).size single room

      front : Listed (check_count (length ws)) ws old new → Printed t largest (take (length ws + check_count (length ws)) new)
      front l = record {
        symbol = ws;
        best = B;
        single = single;
        checks = l.checks;
        number = l.number;
        bytes = l.bytes;
        right = l.right;
        is = ap (take (length ws + check_count (length ws))) l.list ∙ take_at (ws ++ l.checks) _ _ (length-append ws l.checks ∙ ap (λ (k : ℕ). length ws + k) l.number);
      }

  -- and there is one such list
  pub one_printed : (a b : List ℕ) → Printed t largest a → Printed t largest b → a ≡ b
  one_printed a b p q = p.is ∙ ap₂ ◌++◌ same (go q.symbol same q.checks q.number q.bytes q.right) ∙ sym q.is
    where
      same : p.symbol ≡ q.symbol
      same = one_best t largest p.symbol q.symbol p.best q.best

      go : (ws : List ℕ) → p.symbol ≡ ws → (c : List ℕ) → length c ≡ check_count (length ws) → Bytes c → Right (check_count (length ws)) (ws ++ c) → p.checks ≡ c
      go ws e c n by r =
          let ds : List ℕ = p.symbol in
          let k : ℕ = check_count (length ds) in
          let few = (small (length ds) (read_of t ds p.best.symbol).size p.single).most in
          let dsb = bytes_of ds p.best.symbol.bytes in
          check_only k ds p.checks (omega (arith, few)) dsb p.bytes p.number p.right
          ∙ sym (check_only k ds c (omega (arith, few)) dsb by (subst (λ (vs : List ℕ). length c ≡ check_count (length vs)) (sym e) n)
          (subst (λ (vs : List ℕ). Right (check_count (length vs)) (vs ++ c)) (sym e) r))
