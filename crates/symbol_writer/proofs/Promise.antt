-- From the symbol that the costs give to the promise: the greedy writer's symbol is the best, by the theorem of crate `optimum`; and the
-- promise leaves one answer, since the best symbol is one and none fits where there is none.
-- Assumes nothing.
use Rattle.std.specs.Prelude.{Ok, Err}
use Rattle.std.specs.declared.result.Result.{Result}
use mathlib.Core.Bool.{Bool, true, false, not, ◌||◌}
use mathlib.Core.List.{List, [], ◌∷◌, ◌++◌}
use mathlib.Core.Logic.{inl, inr}
use mathlib.Core.Path.{◌≡◌, refl, ap, ap₂, sym, ◌∙◌}
use Prim.Native.Nat.{ℕ, suc, ◌≤◌}
use native.Mathlib.Omega.{arith}
use lib.Dec.{ltb}
use lib.ListN.{length, drop}
use borrow.Author.Tests.{ltb-true, ltb-false}
use Rattle.refusal.specs.Limits.{limit}
use Rattle.refusal.specs.declared.Refusal.{Refusal}
use Rattle.refusal.specs.Answers.{refused}
use Rattle.refusal.specs.Said.{says}
use Rattle.refusal.proofs.Said.{says_one}
use Rattle.refusal.specs.Pick.{pick}
use Rattle.refusal.specs.Numbers.{text_too_long, lent_too_short, character_above_127, largest_no_capacity, no_size_fits}
use Rattle.codeword.specs.Sizes.{capacities, is_capacity}
use Rattle.codeword.specs.Best.{used, Best, NoneFits}
use Rattle.codeword.specs.Reading.{in_ascii}
use Rattle.optimum.specs.Write.{Choice, at, nothing, write, choose, symbol_of}
use Rattle.optimum.proofs.Values as Values
use Rattle.optimum.proofs.Top.{right, Sized, sized}
use Rattle.optimum.proofs.Top as Top
use Rattle.optimum.proofs.Unique.{one_best}
use Rattle.symbol_writer.specs.declared.SymbolWritten.{SymbolWritten}
use Rattle.symbol_writer.specs.Rows.{work_room}
use Rattle.symbol_writer.specs.Moves.{Chars}
use Rattle.symbol_writer.specs.Symbol.{Answer, first_above, zeros, with_pads, in_size, write_symbol, answered, symbol_after, work_after}
use Rattle.symbol_writer.specs.Promise.{Stands, TooShort, Chosen, Promised, work_left}
use Rattle.symbol_writer.proofs.Whole.{chars_of, symbol_is, work_cleared}

listed : (t : List ℕ) → Chars t → Values.Chars t
listed [] h = tt
listed (c ∷ t) h = (h 0, listed t (λ k. h (suc k)))

-- THE SYMBOL OF THE CHOSEN SIZE
module _ (t : List ℕ) (largest : ℕ) (old new : List ℕ) where
  no_size : (r : Result SymbolWritten Refusal) → NoneFits t largest → says r ≡ refused no_size_fits 0 → new ≡ old → Chosen t largest old new r
  no_size (Ok w) N e f = absurd (cc)
  no_size (Err x) N e f = inl ((e, f), N)

  too_short : (r : Result SymbolWritten Refusal) → TooShort t largest old → says r ≡ refused lent_too_short 0 → new ≡ old → Chosen t largest old new r
  too_short (Ok w) T e f = absurd (cc)
  too_short (Err x) T e f = inr ((e, f), T)

module _ (t : List ℕ) (largest : ℕ) (old new : List ℕ) (r : Result SymbolWritten Refusal) where
  in_size_law : (c n : ℕ) (b : Bool) → Best t largest (symbol_of (at c n b) t) → Sized t (at c n b)
      → says r ≡ answered (in_size (length old) t (at c n b)) → new ≡ symbol_after (in_size (length old) t (at c n b)) old → Chosen t largest old new r
  in_size_law c n b B S = go (ltb (length old) c) refl
    where
      go : (x : Bool) → ltb (length old) c ≡ x
          → says r ≡ answered (pick x (Answer.cleared lent_too_short 0) (Answer.written c (length (write b n in_ascii t)) (with_pads c (write b n in_ascii t))))
          → new ≡ symbol_after (pick x (Answer.cleared lent_too_short 0) (Answer.written c (length (write b n in_ascii t)) (with_pads c (write b n in_ascii t)))) old
          → Chosen t largest old new r
      go true q e f = too_short t largest old new r (record { ws = symbol_of (at c n b) t; best = B; short = omega (arith, S.1, ltb-true (length old) c q) }) e f
      go false q e f =
          rw (says_one r (Ok (record { capacity = c; used = length (write b n in_ascii t) })) e)
          (record {
            ws = symbol_of (at c n b) t;
            best = B;
            size = sym S.1;
            count = S.0 ∙ sym S.2;
            room = omega (arith, S.1, ltb-false (length old) c q);
            output = f ∙ ap (λ s. s ++ drop (length s) old) (symbol_is c n b t S.0);
          })

  by_choice : (x : Choice) → Top.Answer t largest x → Sized t x
      → says r ≡ answered (in_size (length old) t x) → new ≡ symbol_after (in_size (length old) t x) old → Chosen t largest old new r
  by_choice (at c n b) B S e f = in_size_law c n b B S e f
  by_choice nothing N S e f = no_size t largest old new r N e f

  -- THE PROMISE
  pub promised : (work : ℕ) → says r ≡ answered (write_symbol t largest work (length old)) → new ≡ symbol_after (write_symbol t largest work (length old)) old
      → Promised t largest work old new r
  unfolding Promised write_symbol
  promised work = go (ltb limit (length t)) (ltb (first_above t) (length t)) (is_capacity largest) (ltb work work_room) refl refl
    where
      answer : (a b c d : Bool) → Answer
      answer a b c d =
          pick a (Answer.refused text_too_long 0)
          (pick b (Answer.refused character_above_127 (first_above t))
          (pick c
          (pick d (Answer.refused lent_too_short 0) (in_size (length old) t (choose capacities largest t)))
          (Answer.refused largest_no_capacity 0)))

      is : (number place : ℕ) → Type 0
      is k p = (says r ≡ refused k p) × (new ≡ old)

      go : (a b c d : Bool) → ltb limit (length t) ≡ a → ltb (first_above t) (length t) ≡ b → says r ≡ answered (answer a b c d)
          → new ≡ symbol_after (answer a b c d) old
          → pick a (is text_too_long 0) (pick b (is character_above_127 (first_above t))
          (pick c (pick d (is lent_too_short 0) (Chosen t largest old new r)) (is largest_no_capacity 0)))
      go true b c d p q e f = (e, f)
      go false true c d p q e f = (e, f)
      go false false false d p q e f = (e, f)
      go false false true true p q e f = (e, f)
      go false false true false p q e f =
          let short : length t ≤ limit = omega (arith, ltb-false limit (length t) p) in
          let chars = listed t (chars_of t (omega (arith, ltb-false (first_above t) (length t) q))) in
          by_choice (choose capacities largest t) (right t chars short largest) (sized t chars short largest) e f

-- THE WORK SLICE
pub left_as_promised : (t : List ℕ) (largest room : ℕ) (old : List ℕ) → work_after (write_symbol t largest (length old) room) old ≡ work_left t largest old
unfolding write_symbol
left_as_promised t largest room old =
    go (ltb limit (length t)) (ltb (first_above t) (length t)) (is_capacity largest) (ltb (length old) work_room)
  where
    go : (a b c d : Bool)
        → work_after
        (pick a (Answer.refused text_too_long 0)
        (pick b (Answer.refused character_above_127 (first_above t))
        (pick c
        (pick d (Answer.refused lent_too_short 0) (in_size room t (choose capacities largest t)))
        (Answer.refused largest_no_capacity 0)))) old
        ≡ pick (a || (b || (not c || d))) old (zeros work_room ++ drop work_room old)
    go true b c d = refl
    go false true c d = refl
    go false false false d = refl
    go false false true true = refl
    go false false true false = work_cleared room t (choose capacities largest t) old

-- ONE ANSWER ONLY
module _ (t : List ℕ) (largest : ℕ) (old : List ℕ) where
  both_stand : (new new' : List ℕ) (w w' : SymbolWritten) → Stands t largest old new w.capacity w.used → Stands t largest old new' w'.capacity w'.used
      → (◌≡◌ {A = Result SymbolWritten Refusal} (Ok w) (Ok w')) × (new ≡ new')
  both_stand new new' w w' S S' = go (one_best t largest S.ws S'.ws S.best S'.best)
    where
      go : S.ws ≡ S'.ws → (◌≡◌ {A = Result SymbolWritten Refusal} (Ok w) (Ok w')) × (new ≡ new')
      go e = (
        ap₂ (λ (c n : ℕ). Ok (record { capacity = c; used = n })) (S.size ∙ ap length e ∙ sym S'.size) (S.count ∙ ap used e ∙ sym S'.count),
        S.output ∙ ap (λ ws. ws ++ drop (length ws) old) e ∙ sym S'.output,
      )

  no_size_no_best : {P : Type 0} (ws : List ℕ) → Best t largest ws → NoneFits t largest → P
  no_size_no_best ws B N = absurd (omega (arith, B.permitted, N.nothing ws B.symbol))

  stands_no_room : {P : Type 0} (new : List ℕ) (c n : ℕ) → Stands t largest old new c n → TooShort t largest old → P
  stands_no_room new c n S T = absurd (omega (arith, S.room, T.short, ap length (one_best t largest S.ws T.ws S.best T.best)))

  only_chosen : (new new' : List ℕ) (r r' : Result SymbolWritten Refusal) → Chosen t largest old new r → Chosen t largest old new' r' → (r ≡ r') × (new ≡ new')
  only_chosen new new' (Ok w) (Ok w') S S' = both_stand new new' w w' S S'
  only_chosen new new' (Ok w) (Err x) S (inl (e, N)) = no_size_no_best S.ws S.best N
  only_chosen new new' (Ok w) (Err x) S (inr (e, T)) = stands_no_room new w.capacity w.used S T
  only_chosen new new' (Err x) (Ok w) (inl (e, N)) S = no_size_no_best S.ws S.best N
  only_chosen new new' (Err x) (Ok w) (inr (e, T)) S = stands_no_room new' w.capacity w.used S T
  only_chosen new new' (Err x) (Err x') (inl (e, N)) (inl (e', N')) = (says_one (Err x) (Err x') (e.0 ∙ sym e'.0), e.1 ∙ sym e'.1)
  only_chosen new new' (Err x) (Err x') (inl (e, N)) (inr (e', T)) = no_size_no_best T.ws T.best N
  only_chosen new new' (Err x) (Err x') (inr (e, T)) (inl (e', N)) = no_size_no_best T.ws T.best N
  only_chosen new new' (Err x) (Err x') (inr (e, T)) (inr (e', T')) = (says_one (Err x) (Err x') (e.0 ∙ sym e'.0), e.1 ∙ sym e'.1)

  pub only_one : (work : ℕ) (new new' : List ℕ) (r r' : Result SymbolWritten Refusal) → Promised t largest work old new r → Promised t largest work old new' r'
      → (r ≡ r') × (new ≡ new')
  unfolding Promised
  only_one work new new' r r' = go (ltb limit (length t)) (ltb (first_above t) (length t)) (is_capacity largest) (ltb work work_room)
    where
      is : (number place : ℕ) (new : List ℕ) (r : Result SymbolWritten Refusal) → Type 0
      is k p new r = (says r ≡ refused k p) × (new ≡ old)

      same : (k p : ℕ) → is k p new r → is k p new' r' → (r ≡ r') × (new ≡ new')
      same k p x y = (says_one r r' (x.0 ∙ sym y.0), x.1 ∙ sym y.1)

      told : (a b c d : Bool) (new : List ℕ) (r : Result SymbolWritten Refusal) → Type 0
      told a b c d new r =
          pick a (is text_too_long 0 new r)
          (pick b (is character_above_127 (first_above t) new r)
          (pick c (pick d (is lent_too_short 0 new r) (Chosen t largest old new r)) (is largest_no_capacity 0 new r)))

      go : (a b c d : Bool) → told a b c d new r → told a b c d new' r' → (r ≡ r') × (new ≡ new')
      go true b c d x y = same text_too_long 0 x y
      go false true c d x y = same character_above_127 (first_above t) x y
      go false false false d x y = same largest_no_capacity 0 x y
      go false false true true x y = same lent_too_short 0 x y
      go false false true false x y = only_chosen new new' r r' x y
