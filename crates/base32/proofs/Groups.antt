-- Group by group: the values of one group, what the last one adds, and the whole as its groups side by side.
-- Assumes nothing.
use Prim.Native.Nat.{ℕ, zero, suc, ◌+◌, ◌-◌, ◌*◌, ◌/◌, ◌%◌, ◌≤◌, ◌<◌}
use mathlib.Core.Bool.{true}
use mathlib.Core.List.{List, [], ◌∷◌, ◌++◌, map, append_assoc}
use mathlib.Core.Path.{◌≡◌, refl, sym, ap, ◌∙◌}
use Rattle.std.proofs.Math.Nat.{mul-zero, mul-suc}
use native.Mathlib.Omega.{arith}
use lib.ListN.{length, take, drop, get_or, replicate, length-append, length-drop, length-map, take-append-drop}
use lib.Seq.{take-length, drop-drop, length-take-le}
use borrow.Rule.Slice.PartMut.{put_mid}
use Rattle.std.specs.List.{AllPass}
use Rattle.std.specs.Simd.{first_chunks}
use Rattle.std.proofs.lemmas.Slice.{take-put_mid, drop-put_mid}
use Rattle.std.proofs.lemmas.List.Elements.{All-same, All-append, All-take, All-drop, All-replicate}
use Rattle.refusal.specs.Over.{over}
use Rattle.refusal.specs.Chars.{chars_at}
use Rattle.refusal.proofs.Over.{tail_is}
use Rattle.refusal.proofs.Chars.{chars_at_law}
use Rattle.base32.specs.Base32.{in_alphabet, value_of, char_of, bytes, values, decoded, encoded}
use Rattle.base32.proofs.RoundTrip.{length_bytes, length_values, byte1, byte2, byte3, byte4, byte5, value2, value4, value5, value7}

-- the elements of a list of a known length, one by one
one_by_one : (n : ℕ) (l : List ℕ) → length l ≡ n → chars_at n 0 l ≡ l
one_by_one n l h = sym (chars_at_law n 0 l (omega arith)) ∙ ap (λ k. take k l) (sym h) ∙ take-length l

-- ONE GROUP of characters, and of bytes
pub eight_chars : (l : List ℕ) (a b c d e f g h : ℕ) → length l ≡ 8
    → a ≡ value_of (get_or l 0 0) → b ≡ value_of (get_or l 1 0) → c ≡ value_of (get_or l 2 0) → d ≡ value_of (get_or l 3 0)
    → e ≡ value_of (get_or l 4 0) → f ≡ value_of (get_or l 5 0) → g ≡ value_of (get_or l 6 0) → h ≡ value_of (get_or l 7 0)
    → byte1 a b ∷ byte2 b c d ∷ byte3 d e ∷ byte4 e f g ∷ byte5 g h ∷ [] ≡ decoded l
unfolding bytes
eight_chars l a b c d e f g h n p1 p2 p3 p4 p5 p6 p7 p8 =
    (λ i. byte1 (p1 i) (p2 i) ∷ byte2 (p2 i) (p3 i) (p4 i) ∷ byte3 (p4 i) (p5 i) ∷ byte4 (p5 i) (p6 i) (p7 i) ∷ byte5 (p7 i) (p8 i) ∷ [])
    ∙ ap decoded (one_by_one 8 l n)

pub five_bytes : (l : List ℕ) (r1 r2 r3 r4 r5 r6 r7 r8 : ℕ) → length l ≡ 5
    → r1 ≡ char_of (get_or l 0 0 / 8) → r2 ≡ char_of (value2 (get_or l 0 0) (get_or l 1 0)) → r3 ≡ char_of (get_or l 1 0 / 2 % 32) → r4 ≡ char_of (value4 (get_or l 1 0) (get_or l 2 0))
    → r5 ≡ char_of (value5 (get_or l 2 0) (get_or l 3 0)) → r6 ≡ char_of (get_or l 3 0 / 4 % 32) → r7 ≡ char_of (value7 (get_or l 3 0) (get_or l 4 0)) → r8 ≡ char_of (get_or l 4 0 % 32)
    → r1 ∷ r2 ∷ r3 ∷ r4 ∷ r5 ∷ r6 ∷ r7 ∷ r8 ∷ [] ≡ encoded l
unfolding values
five_bytes l r1 r2 r3 r4 r5 r6 r7 r8 n p1 p2 p3 p4 p5 p6 p7 p8 =
    (λ i. p1 i ∷ p2 i ∷ p3 i ∷ p4 i ∷ p5 i ∷ p6 i ∷ p7 i ∷ p8 i ∷ []) ∙ ap encoded (one_by_one 5 l n)

-- and then the others
decoded_step : (l : List ℕ) → 8 ≤ length l → decoded l ≡ decoded (take 8 l) ++ decoded (drop 8 l)
unfolding bytes
decoded_step [] n = absurd (omega arith)
decoded_step (a ∷ []) n = absurd (omega arith)
decoded_step (a ∷ b ∷ []) n = absurd (omega arith)
decoded_step (a ∷ b ∷ c ∷ []) n = absurd (omega arith)
decoded_step (a ∷ b ∷ c ∷ d ∷ []) n = absurd (omega arith)
decoded_step (a ∷ b ∷ c ∷ d ∷ e ∷ []) n = absurd (omega arith)
decoded_step (a ∷ b ∷ c ∷ d ∷ e ∷ f ∷ []) n = absurd (omega arith)
decoded_step (a ∷ b ∷ c ∷ d ∷ e ∷ f ∷ g ∷ []) n = absurd (omega arith)
decoded_step (a ∷ b ∷ c ∷ d ∷ e ∷ f ∷ g ∷ h ∷ l) n = refl

encoded_step : (l : List ℕ) → 5 ≤ length l → encoded l ≡ encoded (take 5 l) ++ encoded (drop 5 l)
unfolding values
encoded_step [] n = absurd (omega arith)
encoded_step (a ∷ []) n = absurd (omega arith)
encoded_step (a ∷ b ∷ []) n = absurd (omega arith)
encoded_step (a ∷ b ∷ c ∷ []) n = absurd (omega arith)
encoded_step (a ∷ b ∷ c ∷ d ∷ []) n = absurd (omega arith)
encoded_step (a ∷ b ∷ c ∷ d ∷ e ∷ l) n = refl

-- how many there are
pub length_decoded : (l : List ℕ) → length (decoded l) ≡ 5 * length l / 8
length_decoded l = length_bytes (map value_of l) ∙ ap (λ n. 5 * n / 8) (length-map l value_of)

pub length_encoded : (l : List ℕ) → length (encoded l) ≡ (8 * length l + 4) / 5
length_encoded l = length-map (values l) char_of ∙ length_values l

-- the whole bytes of a group that was filled up with A, and the characters of one that was filled up with zeros
pub decoded_rest : (l : List ℕ) → length l < 8 → take (5 * length l / 8) (decoded (l ++ drop (length l) (replicate 8 65))) ≡ decoded l
unfolding bytes
decoded_rest [] n = refl
decoded_rest (a ∷ []) n = refl
decoded_rest (a ∷ b ∷ []) n = refl
decoded_rest (a ∷ b ∷ c ∷ []) n = refl
decoded_rest (a ∷ b ∷ c ∷ d ∷ []) n = refl
decoded_rest (a ∷ b ∷ c ∷ d ∷ e ∷ []) n = refl
decoded_rest (a ∷ b ∷ c ∷ d ∷ e ∷ f ∷ []) n = refl
decoded_rest (a ∷ b ∷ c ∷ d ∷ e ∷ f ∷ g ∷ []) n = refl
decoded_rest (a ∷ b ∷ c ∷ d ∷ e ∷ f ∷ g ∷ h ∷ l) n = absurd (omega arith)

pub encoded_rest : (l : List ℕ) → length l < 5 → take ((8 * length l + 4) / 5) (encoded (l ++ drop (length l) (replicate 5 0))) ≡ encoded l
unfolding values
encoded_rest [] n = refl
encoded_rest (a ∷ []) n = refl
encoded_rest (a ∷ b ∷ []) n = refl
encoded_rest (a ∷ b ∷ c ∷ []) n = refl
encoded_rest (a ∷ b ∷ c ∷ d ∷ []) n = refl
encoded_rest (a ∷ b ∷ c ∷ d ∷ e ∷ l) n = absurd (omega arith)

-- the i-th group of n
pub group_at : (n k i : ℕ) (l d : List ℕ) → i < k → get_or (first_chunks n k l) i d ≡ take n (drop (n * i) l)
group_at n zero i l d h = absurd (omega arith)
group_at n (suc k) zero l d h = rw mul-zero refl
group_at n (suc k) (suc i) l d h =
    let e : n + n * i ≡ n * suc i = omega (arith, mul-suc n i) in
    group_at n k i (drop n l) d (omega arith) ∙ ap (take n) (drop-drop (n * i) n l ∙ ap (λ m. drop m l) e)

-- ONE GROUP MORE of k elements, up to the place p and then up to q; and at the end the last one, filled up by some of `pad`
module _ (F : List ℕ → List ℕ) (l done : List ℕ) (p : ℕ) (so_far : done ++ F (drop p l) ≡ F l) where
  more : (k q : ℕ) (group y : List ℕ) → F (drop p l) ≡ F (take k (drop p l)) ++ F (drop k (drop p l)) → group ≡ take k (drop p l) → y ≡ F group → q ≡ p + k → (done ++ y) ++ F (drop q l) ≡ F l
  more k q group y step g f e =
      append_assoc done y (F (drop q l)) ∙ ap (λ z. done ++ z) ((λ i. (f ∙ ap F g) i ++ F (drop (e i) l)) ∙ ap (λ z. F (take k (drop p l)) ++ F z) (sym (drop-drop k p l)) ∙ sym step) ∙ so_far

  last_one : (m : ℕ) (rest z y pad : List ℕ) → rest ≡ drop p l → z ≡ rest → y ≡ F (z ++ pad) → take m (F (rest ++ pad)) ≡ F rest → done ++ take m y ≡ F l
  last_one m rest z y pad r e f part = ap (λ x. done ++ x) (ap (take m) (f ∙ ap (λ x. F (x ++ pad)) e) ∙ part ∙ ap F r) ∙ so_far

pub decoded_more : (l done five group : List ℕ) (i : ℕ) → done ++ decoded (drop (8 * i) l) ≡ decoded l → 8 * i + 8 ≤ length l → group ≡ take 8 (drop (8 * i) l) → five ≡ decoded group → (done ++ five) ++ decoded (drop (8 * (i + 1)) l) ≡ decoded l
decoded_more l done five group i s h g f = more decoded l done (8 * i) s 8 (8 * (i + 1)) group five (decoded_step (drop (8 * i) l) (omega (arith, length-drop (8 * i) l))) g f (omega arith)

pub encoded_more : (l done eight group : List ℕ) (i : ℕ) → done ++ encoded (drop (5 * i) l) ≡ encoded l → 5 * i + 5 ≤ length l → group ≡ take 5 (drop (5 * i) l) → eight ≡ encoded group → (done ++ eight) ++ encoded (drop (5 * (i + 1)) l) ≡ encoded l
encoded_more l done eight group i s h g f = more encoded l done (5 * i) s 5 (5 * (i + 1)) group eight (encoded_step (drop (5 * i) l) (omega (arith, length-drop (5 * i) l))) g f (omega arith)

pub decoded_last : (l done five rest z : List ℕ) (p : ℕ) → done ++ decoded (drop p l) ≡ decoded l → rest ≡ drop p l → length rest < 8 → z ≡ rest → five ≡ decoded (z ++ drop (length rest) (replicate 8 65)) → done ++ take (5 * length rest / 8) five ≡ decoded l
decoded_last l done five rest z p s r h e f = last_one decoded l done p s (5 * length rest / 8) rest z five (drop (length rest) (replicate 8 65)) r e f (decoded_rest rest h)

pub encoded_last : (l done eight rest z : List ℕ) (p : ℕ) → done ++ encoded (drop p l) ≡ encoded l → rest ≡ drop p l → length rest < 5 → z ≡ rest → eight ≡ encoded (z ++ drop (length rest) (replicate 5 0)) → done ++ take ((8 * length rest + 4) / 5) eight ≡ encoded l
encoded_last l done eight rest z p s r h e f = last_one encoded l done p s ((8 * length rest + 4) / 5) rest z eight (drop (length rest) (replicate 5 0)) r e f (encoded_rest rest h)

-- there is room for as many bytes as are left of at most 132
pub bytes_fit : (l done : List ℕ) (p m : ℕ) → done ++ decoded (drop p l) ≡ decoded l → length l ≤ 212 → m ≤ 5 * (length l - p) / 8 → length done + m ≤ 132
bytes_fit l done p m w h k = omega (arith, ap length w, length-append done (decoded (drop p l)), length_decoded l, length_decoded (drop p l), length-drop p l)

-- a part of characters that are all of the alphabet; and filled up with A
pub part_in : (l : List ℕ) (k p : ℕ) → AllPass in_alphabet l → AllPass in_alphabet (take k (drop p l))
part_in l k p a = All-take (λ c. in_alphabet c ≡ true) k (drop p l) (All-drop (λ c. in_alphabet c ≡ true) p l a)

pub filled_in : (l rest z : List ℕ) (p : ℕ) → AllPass in_alphabet l → rest ≡ drop p l → z ≡ rest → AllPass in_alphabet (z ++ drop (length rest) (replicate 8 65))
filled_in l rest z p a r e = All-append (λ c. in_alphabet c ≡ true) z (drop (length rest) (replicate 8 65)) (All-same (λ c. in_alphabet c ≡ true) z (drop p l) (e ∙ r) (All-drop (λ c. in_alphabet c ≡ true) p l a)) (All-drop (λ c. in_alphabet c ≡ true) (length rest) (replicate 8 65) (All-replicate (λ c. in_alphabet c ≡ true) 8 65 refl))

-- a piece z put into the output behind the place `at`
pub put_behind : (out old z : List ℕ) (at n m : ℕ) → at ≤ length out → length z ≡ m → n ≡ at + m → drop at out ≡ drop at old → (take n (put_mid at m out z) ≡ take at out ++ z) × (drop n (put_mid at m out z) ≡ drop n old)
put_behind out old z at n m h long e b =
    let same : drop n out ≡ drop n old = ap (λ k. drop k out) e ∙ sym (drop-drop m at out) ∙ ap (drop m) b ∙ drop-drop m at old ∙ ap (λ k. drop k old) (sym e) in
    (take-put_mid at m out z n (omega (arith, long)) h, drop-put_mid at m out z n (omega arith) h long ∙ same)

pub written_over : (l out old : List ℕ) (at : ℕ) → at ≤ length out → take at out ≡ encoded l → drop at out ≡ drop at old → out ≡ over (encoded l) old
written_over l out old at h front b =
    sym (take-append-drop at out) ∙ (λ i. front i ++ b i) ∙ ap (λ k. encoded l ++ drop k old) (sym (length-take-le at out h) ∙ ap length front)
