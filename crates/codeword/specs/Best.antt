-- The symbol that is written for a text: document 01, "From text to codewords".
use Rattle.std.specs.Prelude.{ℕ, ◌≤◌, ◌<◌, Bool, true, false, List, [], ◌∷◌, ◌≡◌, length, take, get_or}
use Rattle.refusal.specs.Limits.{limit}
use Rattle.codeword.specs.Reading.{Reading, good, refused, read_symbol}
use Rattle.codeword.specs.Pads.{pad_at}

abbrev pub used_of : Reading → ℕ
used_of (good t n b) = n
used_of (refused k p) = 0

abbrev pub text_of : Reading → List ℕ
text_of (good t n b) = t
text_of (refused k p) = []

abbrev pub is_good : Reading → Bool
is_good (good t n b) = true
is_good (refused k p) = false

-- a way to read a symbol, where the lent text has so many bytes
abbrev pub Reader : Type 0
Reader = List ℕ → ℕ → Reading

-- the codewords before the first pad, all of them if there is no pad: what the reading of the symbol counts
unfoldable pub used_by : Reader → List ℕ → ℕ
used_by R ws = used_of (R ws limit)

-- the codewords are bytes, and are read as the text: so they are as many as a size holds
pub record SymbolBy (R : Reader) (t ws : List ℕ) : Type 0 where
  pub bytes : (i : ℕ) → get_or ws i 0 < 256
  pub accepted : is_good (R ws limit) ≡ true
  pub text : text_of (R ws limit) ≡ t

-- at the first codeword that differs, if any, the second list has the larger
pub data ◌≼◌ : List ℕ → List ℕ → Type 0 where
  none_differs : [] ≼ []
  differs : {a b : ℕ} {v w : List ℕ} → a < b → (a ∷ v) ≼ (b ∷ w)
  equals : {a : ℕ} {v w : List ℕ} → v ≼ w → (a ∷ v) ≼ (a ∷ w)

infix 50 ◌≼◌
-- THE SYMBOL of the text t: the smallest capacity with a sequence that reads as the text; within it the fewest codewords before
-- the first pad; among those, at the first of these codewords that differs, the larger wins. Then the pads.
pub record BestBy (R : Reader) (t : List ℕ) (max : ℕ) (ws : List ℕ) : Type 0 where
  pub symbol : SymbolBy R t ws
  pub permitted : length ws ≤ max
  pub smallest : (vs : List ℕ) → SymbolBy R t vs → length ws ≤ length vs
  pub fewest : (vs : List ℕ) → SymbolBy R t vs → length vs ≡ length ws → used_by R ws ≤ used_by R vs
  pub largest : (vs : List ℕ) → SymbolBy R t vs → length vs ≡ length ws → used_by R vs ≡ used_by R ws → take (used_by R ws) vs ≼ take (used_by R ws) ws
  pub padding : (i : ℕ) → used_by R ws ≤ i → i < length ws → get_or ws i 0 ≡ pad_at (used_by R ws) i

-- REFUSAL 9: no permitted size fits
pub record NoneFitsBy (R : Reader) (t : List ℕ) (max : ℕ) : Type 0 where
  pub nothing : (vs : List ℕ) → SymbolBy R t vs → max < length vs

-- by the reading that looks at every pad
abbrev pub used : List ℕ → ℕ
used = used_by read_symbol

abbrev pub Symbol : (t ws : List ℕ) → Type 0
Symbol = SymbolBy read_symbol

abbrev pub Best : (t : List ℕ) (max : ℕ) (ws : List ℕ) → Type 0
Best = BestBy read_symbol

abbrev pub NoneFits : (t : List ℕ) (max : ℕ) → Type 0
NoneFits = NoneFitsBy read_symbol
