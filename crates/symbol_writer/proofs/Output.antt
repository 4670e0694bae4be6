-- What stands in front of the output: codewords that are stored one behind the other, the moves that store them, and the pads.
-- Assumes nothing.
use Rattle.std.specs.Prelude.{Some}
use mathlib.Core.Bool.{Bool}
use mathlib.Core.List.{List, [], ◌∷◌, ◌++◌, append-nil, append_assoc}
use mathlib.Core.Path.{◌≡◌, refl, ap, sym, ◌∙◌}
use Prim.Native.Nat.{ℕ, zero, suc, ◌+◌, ◌-◌, ◌≤◌, ◌<◌}
use native.Mathlib.Omega.{arith}
use native.Mathlib.Numerals.{add-one}
use lib.ListN.{length, take, drop, set, length-set, take-append-drop}
use lib.Seq.{take-suc-set, drop-set-lt, drop-drop, length-take-le}
use Rattle.codeword.specs.Pads.{pad_at}
use Rattle.codeword.specs.Reading as reading
use Rattle.codeword.specs.Reading.{in_ascii}
use Rattle.optimum.specs.Write.{one, two, none, move, write, padding}
use Rattle.symbol_writer.specs.declared.moves.Mode.{Mode}
use Rattle.symbol_writer.specs.declared.moves.Move.{Move}
use Rattle.symbol_writer.specs.declared.moves.Codewords.{Codewords}
use Rattle.symbol_writer.specs.declared.moves.Codewords.TheVariants.{One, Two}
use Rattle.symbol_writer.specs.Moves.{mode_of, moved, move_of, words, MoveWithin}
use Rattle.symbol_writer.specs.Codewords.{put_words, Put}

-- k codewords are stored, and the rest of ws is to come; behind them the output is as it was
pub record Front (ws old out rest : List ℕ) (k : ℕ) : Type 0 where
  pub is : ws ≡ take k out ++ rest
  pub behind : drop k out ≡ drop k old
  pub long : length out ≡ length old

pub store : (ws old out rest : List ℕ) (k v : ℕ) → k < length out → Front ws old out (v ∷ rest) k → Front ws old (set out k v) rest (k + 1)
store ws old out rest k v h F =
    record {
      is = F.is ∙ rw (front, append_assoc) refl;
      behind = drop-set-lt (k + 1) out k v (omega arith) ∙ sym (drop-drop 1 k out) ∙ ap (drop 1) F.behind ∙ drop-drop 1 k old;
      long = length-set out k v ∙ F.long;
    }
  where
    front : take (k + 1) (set out k v) ≡ take k out ++ (v ∷ [])
    front = rw (add-one k) (take-suc-set out k v h)

pub stored_all : (ws old out : List ℕ) (k : ℕ) → k ≤ length out → Front ws old out [] k → (k ≡ length ws) × (out ≡ ws ++ drop k old)
stored_all ws old out k h F =
    let e : ws ≡ take k out = F.is ∙ append-nil (take k out) in (
      sym (ap length e ∙ length-take-le k out h),
      sym (take-append-drop k out) ∙ rw (F.behind, ← e) refl,
    )

-- THE MOVES
module _ (b : Bool) (m m' : reading.Mode) (t t' : List ℕ) where
  run_one : (n w : ℕ) → one w m' t' ≡ move b (suc n) m t → write b (suc n) m t ≡ w ∷ write b n m' t'
  unfolding write
  run_one zero w e = rw (← e)
  run_one (suc n) w e = rw (← e)

  run_two : (n v w : ℕ) → two v w m' t' ≡ move b (suc (suc n)) m t → write b (suc (suc n)) m t ≡ v ∷ w ∷ write b n m' t'
  unfolding write
  run_two n v w e = rw (← e)

run_none : (b : Bool) (m : reading.Mode) (t : List ℕ) (n : ℕ) → none ≡ move b (suc n) m t → write b (suc n) m t ≡ []
unfolding write
run_none b m t zero e = rw (← e)
run_none b m t (suc n) e = rw (← e)

-- k codewords are written, and the place i of the text is reached in the mode m
pub record Writing (b : Bool) (t : List ℕ) (n : ℕ) (old out : List ℕ) (m : Mode) (i k : ℕ) : Type 0 where
  pub place : i ≤ length t
  pub count : k ≤ n
  pub front : Front (write b n in_ascii t) old out (write b (n - k) (mode_of m) (drop i t)) k

module _ (b : Bool) (t : List ℕ) (n : ℕ) (old out : List ℕ) (m : Mode) (i k : ℕ) (E : Writing b t n old out m i k) (room : n ≤ length out) where
  pub written_all : n ≤ k → Put (write b n in_ascii t) n old out k
  unfolding write
  written_all h =
      let z : n - k ≡ 0 = omega arith in
      let A = stored_all (write b n in_ascii t) old out k (omega (arith, E.count)) (rw z at E.front) in
      record { count = A.0; few = E.count; is = A.1 }

  module _ (more : k < n) where
    one_left : n - k ≡ suc (n - (k + 1))
    one_left = omega arith

    -- no move is left
    pub written_up : none ≡ move b (n - k) (mode_of m) (drop i t) → Put (write b n in_ascii t) n old out k
    written_up e =
        let q : write b (n - k) (mode_of m) (drop i t) ≡ [] = rw one_left (run_none b (mode_of m) (drop i t) (n - (k + 1)) (rw one_left at e)) in
        let A = stored_all (write b n in_ascii t) old out k (omega arith) (rw q at E.front) in
        record { count = A.0; few = omega arith; is = A.1 }

    go : (mode : Mode) (place : ℕ) (c : Codewords) → moved c (mode_of mode) (drop place t) ≡ move b (n - k) (mode_of m) (drop i t) → place ≤ length t → length (words c) ≤ n - k
        → Writing b t n old (put_words c k out) mode place (k + length (words c))
    go mode j (One w) e l f =
        let q : write b (n - k) (mode_of m) (drop i t) ≡ w ∷ write b (n - (k + 1)) (mode_of mode) (drop j t) = rw one_left (run_one b (mode_of m) (mode_of mode) (drop i t) (drop j t) (n - (k + 1)) w (rw one_left at e)) in
        record { place = l; count = omega arith; front = store (write b n in_ascii t) old out _ k w (omega arith) (rw q at E.front) }
    go mode j (Two v w) e l f =
        let two-left : n - k ≡ suc (suc (n - (k + 2))) = omega arith in
        let q : write b (n - k) (mode_of m) (drop i t) ≡ v ∷ w ∷ write b (n - (k + 2)) (mode_of mode) (drop j t) = rw two-left (run_two b (mode_of m) (mode_of mode) (drop i t) (drop j t) (n - (k + 2)) v w (rw two-left at e)) in
        let F = store (write b n in_ascii t) old out (w ∷ write b (n - (k + 2)) (mode_of mode) (drop j t)) k v (omega arith) (rw q at E.front) in
        let G = store (write b n in_ascii t) old (set out k v) (write b (n - (k + 2)) (mode_of mode) (drop j t)) (k + 1) w (simp length-set (omega arith)) F in
        let s : k + 1 + 1 ≡ k + 2 = omega arith in
        record { place = l; count = omega arith; front = rw s at G }

    -- a move more
    pub written_on : (v : Move) (new : List ℕ) (k' : ℕ) → move_of (Some v) t ≡ move b (n - k) (mode_of m) (drop i t) → MoveWithin (Some v) (length t) (n - k)
        → k' ≡ k + length (words v.codewords) → new ≡ put_words v.codewords k out
        → Writing b t n old new v.mode v.place k'
    written_on v new k' e l p q = rw (p, q) (go v.mode v.place v.codewords e l.0 l.1)

-- THE PADS
pub pads_more : (ws old out : List ℕ) (first i capacity v : ℕ) → i < capacity → capacity ≤ length out → v ≡ pad_at first i → Front ws old out (padding first i (capacity - i)) i → Front ws old (set out i v) (padding first (i + 1) (capacity - (i + 1))) (i + 1)
pads_more ws old out first i capacity v h l e F =
    store ws old out (padding first (i + 1) (capacity - (i + 1))) i v (omega arith) (rw e (rw next_pad at F))
  where
    next_pad : padding first i (capacity - i) ≡ pad_at first i ∷ padding first (i + 1) (capacity - (i + 1))
    next_pad =
        let q : capacity - i ≡ suc (capacity - (i + 1)) = omega arith in
        ap (padding first i) q ∙ ap (λ k. pad_at first i ∷ padding first k (capacity - (i + 1))) (sym (add-one i))
