-- The zone: writing the fields that were read gives the zone's characters again. By induction on the number of fields still allowed,
-- for any stretch of any slice: what was read of one field is what the writer asks of it, and its characters stand where they stood.
-- Assumes nothing.
use Prim.Native.Nat.{ℕ, zero, suc, ◌+◌, ◌≤◌}
use mathlib.Core.Bool.{true, false, not, ◌&&◌}
use mathlib.Core.List.{List, [], ◌∷◌, ◌++◌, append_assoc, append-nil}
use mathlib.Core.Path.{◌≡◌, refl, ap, sym, subst, ◌∙◌}
use native.Mathlib.Omega.{arith}
use lib.Dec.{leb, eqb}
use lib.ListN.{length, take, drop, length-append}
use lib.Seq.{take_at, drop_at}
use borrow.Author.Tests.{leb-true, le-leb, eqb-true, not-true}
use Rattle.refusal.specs.Answers.{good}
use Rattle.refusal.specs.Numbers.{identifier_repeated, data_too_short}
use Rattle.refusal.proofs.Tests.{by_test}
use Rattle.refusal.proofs.Binds.{never, same_good, by_bind, by_check, by_and}
use Rattle.refusal.specs.Among.{among}
use Rattle.dictionary.specs.Dictionary.{Dictionary, Numbered, fixed, find, row_at, rows_of}
use Rattle.dictionary.specs.declared.Row.{Row}
use Rattle.dictionary.specs.declared.Field.{Field}
use Rattle.text.specs.Zone.{Piece, read_data, zone}
use Rattle.text.specs.Text.{within, in_turn, ending, spelled, data_of, write_field, write_zone, write_data}
use Rattle.laws.proofs.Pieces.{Stands, stands, within_nil}
use Rattle.laws.specs.Theorems.{behind, Placed}

-- what is found under an identifier is the row of its number
pub record Is (a b : ℕ) (k : ℕ) (d : Dictionary) (x : Numbered) : Type 0 where
  pub at : ℕ
  pub number : x.number ≡ k + at
  pub row : (i : ℕ) → row_at d at i ≡ good x.row
  pub first : a ≡ x.row.first
  pub second : b ≡ x.row.second

pub find_is : (a b k p : ℕ) (d : Dictionary) (x : Numbered) → find a b k p d ≡ good x → Is a b k d x
unfolding find row_at
find_is a b k p [] x e = never e
find_is a b k p (r ∷ d) x e = by_test (eqb a r.first && eqb b r.second) _ _ _ e (λ t q. here t (same_good q)) λ t q. there (find_is a b (suc k) p d x q)
  where
    here : (eqb a r.first && eqb b r.second) ≡ true → record { number = k; row = r } ≡ x → Is a b k (r ∷ d) x
    here t q = rw (← q) (record { at = 0; number = omega arith; row = λ i. refl; first = by_and (eqb a r.first) (eqb b r.second) t (λ s _. eqb-true a r.first s); second = by_and (eqb a r.first) (eqb b r.second) t (λ _ s. eqb-true b r.second s) })

    there : Is a b (suc k) d x → Is a b k (r ∷ d) x
    there s = record { at = suc s.at; number = omega (arith, s.number); row = s.row; first = s.first; second = s.second }

-- a part of a slice
pub part_at : (source pre mid post : List ℕ) (p : ℕ) → source ≡ pre ++ (mid ++ post) → length pre ≡ p → take (length mid) (drop p source) ≡ mid
part_at source pre mid post p e h = rw (e, drop_at pre (mid ++ post) p h, take_at mid post (length mid) refl)

-- the writer's refusals, none of which is met
pub write_good : (d : Dictionary) (source : List ℕ) (before : List Field) (i : ℕ) (f : Field) (r : Row) (chars : List ℕ)
    → row_at d f.row i ≡ good r → f.start + f.length ≤ length source → among f.row (rows_of before) ≡ false → (f.cut && fixed r) ≡ false
    → within r.greatest (length chars) ≡ true → data_of source f ≡ chars → in_turn r [] chars ≡ true → r.least ≤ length chars
    → write_field d source before i f ≡ good (spelled r chars f.cut)
unfolding write_field write_data
write_good d source before i f r chars row fits once mark limit is turn least =
    rw (row, le-leb _ _ fits, once, is, mark, limit, turn, le-leb _ _ least)

regroup : (pre new e rest post : List ℕ) (a b : ℕ) → pre ++ ((a ∷ b ∷ (new ++ (e ++ rest))) ++ post) ≡ (pre ++ (a ∷ b ∷ [])) ++ (new ++ ((e ++ rest) ++ post))
regroup pre new e rest post a b = ap (λ z. pre ++ (a ∷ b ∷ z)) (append_assoc new (e ++ rest) post) ∙ sym (append_assoc pre (a ∷ b ∷ []) (new ++ ((e ++ rest) ++ post)))

-- what is to be shown
pub record Covered (d : Dictionary) (source : List ℕ) (before : List Field) (i n p : ℕ) (l : List ℕ) (fs : List Field) : Type 0 where
  pub new : List Field
  pub all : fs ≡ before ++ new
  pub written : write_zone d source before i new ≡ good l
  pub few : length new ≤ n
  pub placed : Placed d source p new (p + length l)

nothing : (d : Dictionary) (source : List ℕ) (before : List Field) (i n p : ℕ) (fs : List Field) → before ≡ fs → Covered d source before i n p [] fs
unfolding write_zone Placed
nothing d source before i n p fs e = record { new = []; all = sym e ∙ sym (append-nil before); written = refl; few = omega arith; placed = omega arith }

-- one field, and then the rest
module _ (d : Dictionary) (source : List ℕ) (before : List Field) (i n p : ℕ) (a b : ℕ) (l : List ℕ) (fs : List Field) (pre post : List ℕ) (pl : length pre ≡ p) (sl : source ≡ pre ++ ((a ∷ b ∷ l) ++ post)) where
  abbrev the : Numbered → Piece → Field
  the m x = record { row = m.number; start = p + 2; length = length x.chars; cut = x.cut }

  row_is : (m : Numbered) → Is a b 0 d m → (j : ℕ) → row_at d m.number j ≡ good m.row
  row_is m is j = let q : m.number ≡ is.at = omega (arith, is.number) in rw q (is.row j)

  split : (m : Numbered) (x : Piece) → (s : Stands m.row [] (p + 2) l x) → source ≡ (pre ++ (a ∷ b ∷ [])) ++ (x.chars ++ ((ending m.row x.chars x.cut ++ x.rest) ++ post))
  split m x s = sl ∙ ap (λ z. pre ++ ((a ∷ b ∷ z) ++ post)) (s.there ∙ ap (λ z. z ++ (ending m.row x.chars x.cut ++ x.rest)) (sym s.is)) ∙ regroup pre x.chars (ending m.row x.chars x.cut) x.rest post a b

  front : length (pre ++ (a ∷ b ∷ [])) ≡ p + 2
  front = omega (arith, length-append pre (a ∷ b ∷ []), pl)

  data_is : (m : Numbered) (x : Piece) → (s : Stands m.row [] (p + 2) l x) → data_of source (the m x) ≡ x.chars
  data_is m x s = part_at source (pre ++ (a ∷ b ∷ [])) x.chars ((ending m.row x.chars x.cut ++ x.rest) ++ post) (p + 2) (split m x s) front

  one_written : (m : Numbered) (x : Piece) → Is a b 0 d m → among m.number (rows_of before) ≡ false → (s : Stands m.row [] (p + 2) l x) → m.row.least ≤ length x.chars → write_field d source before i (the m x) ≡ good (spelled m.row x.chars x.cut)
  one_written m x is once s least = write_good d source before i (the m x) m.row x.chars (row_is m is i) fits once s.mark s.limit (data_is m x s) (rw s.is s.turn) least
    where
      fits : p + 2 + length x.chars ≤ length source
      fits = omega (arith, ap length (split m x s), length-append (pre ++ (a ∷ b ∷ [])) (x.chars ++ ((ending m.row x.chars x.cut ++ x.rest) ++ post)), length-append x.chars ((ending m.row x.chars x.cut ++ x.rest) ++ post), front)

  -- the characters of the field
  spelled_is : (m : Numbered) (x : Piece) → Is a b 0 d m → (s : Stands m.row [] (p + 2) l x) → spelled m.row x.chars x.cut ++ x.rest ≡ a ∷ b ∷ l
  spelled_is m x is s = rw (is.first, is.second, s.there, ← s.is) (simp append_assoc)

  rest_at : (m : Numbered) (x : Piece) → Is a b 0 d m → (s : Stands m.row [] (p + 2) l x) → (length (pre ++ spelled m.row x.chars x.cut) ≡ x.next) × (source ≡ (pre ++ spelled m.row x.chars x.cut) ++ (x.rest ++ post))
  rest_at m x is s = (
    omega (arith, length-append pre (spelled m.row x.chars x.cut), length-append x.chars (ending m.row x.chars x.cut), ap length s.is, s.next, pl),
    sl ∙ ap (λ z. pre ++ (z ++ post)) (sym (spelled_is m x is s)) ∙ simp append_assoc,
  )

  -- its place, and that behind it
  behind_is : (m : Numbered) (x : Piece) → Is a b 0 d m → (s : Stands m.row [] (p + 2) l x) → behind (row_at d m.number 0) source (the m x) ≡ x.next
  behind_is m x is s =
      ap (λ r. behind r source (the m x)) (row_is m is 0)
      ∙ ap (λ z. ((p + 2) + length x.chars) + length (ending m.row z x.cut)) (data_is m x s)
      ∙ omega (arith, s.next, ap length s.is)

  end_is : (m : Numbered) (x : Piece) → Is a b 0 d m → (s : Stands m.row [] (p + 2) l x) → x.next + length x.rest ≡ p + length (a ∷ b ∷ l)
  end_is m x is s = omega (arith, (rest_at m x is s).0, ap length (spelled_is m x is s), length-append pre (spelled m.row x.chars x.cut), length-append (spelled m.row x.chars x.cut) x.rest, pl)

  joined : (m : Numbered) (x : Piece) → Is a b 0 d m → among m.number (rows_of before) ≡ false → (s : Stands m.row [] (p + 2) l x) → m.row.least ≤ length x.chars
      → Covered d source (before ++ (the m x ∷ [])) (suc i) n x.next x.rest fs → Covered d source before i (suc n) p (a ∷ b ∷ l) fs
  unfolding write_zone Placed
  joined m x is once s least c = record {
    new = the m x ∷ c.new;
    all = c.all ∙ append_assoc before (the m x ∷ []) c.new;
    written = rw (one_written m x is once s least, c.written) (ap good (spelled_is m x is s));
    few = omega (arith, c.few);
    placed = (refl, subst (λ q. Placed d source q c.new (p + length (a ∷ b ∷ l))) (sym (behind_is m x is s)) (subst (λ e. Placed d source x.next c.new e) (end_is m x is s) c.placed));
  }

pub covers : (d : Dictionary) (source : List ℕ) (n : ℕ) (before : List Field) (i p : ℕ) (l : List ℕ) (fs : List Field)
    → zone d n before p l ≡ good fs → (pre post : List ℕ) → length pre ≡ p → source ≡ pre ++ (l ++ post) → Covered d source before i n p l fs
unfolding zone
covers d source zero before i p [] fs e pre post pl sl = nothing d source before i 0 p fs (same_good e)
covers d source zero before i p (c ∷ []) fs e pre post pl sl = never e
covers d source zero before i p (a ∷ b ∷ l) fs e pre post pl sl =
    by_bind (find a b 0 p d) _ e λ m _ e.
    by_check (not (among m.number (rows_of before))) identifier_repeated p _ e λ _ e. never e
covers d source (suc n) before i p [] fs e pre post pl sl = nothing d source before i (suc n) p fs (same_good e)
covers d source (suc n) before i p (c ∷ []) fs e pre post pl sl = never e
covers d source (suc n) before i p (a ∷ b ∷ l) fs e pre post pl sl =
    by_bind (find a b 0 p d) _ e λ m em e.
    by_check (not (among m.number (rows_of before))) identifier_repeated p _ e λ once e.
    by_bind (read_data m.row p [] (p + 2) l) _ e λ x ex e.
    by_check (leb m.row.least (length x.chars)) data_too_short p _ e λ least e.
    let is = find_is a b 0 p d m em in
    let s = stands m.row p l [] (p + 2) x (within_nil m.row.greatest) ex in
    let r = rest_at d source before i n p a b l fs pre post pl sl m x is s in
    joined d source before i n p a b l fs pre post pl sl m x is (not-true _ once) s (leb-true _ _ least)
    (covers d source n (before ++ (the d source before i n p a b l fs pre post pl sl m x ∷ [])) (suc i) x.next x.rest fs e (pre ++ spelled m.row x.chars x.cut) post r.0 r.1)
