-- The check words by division, a word at a time. Only inner contracts cite this: what check words are is Right.
use Rattle.std.specs.Prelude.{ℕ, replicate, List, [], ◌++◌, ◌∷◌}
use Rattle.galois.specs.Field.{◌⊕◌}
use Rattle.galois.specs.Words.{plus, scale}
use Rattle.check_words.specs.Generator.{coeffs}

-- division by the generator, a word at a time: the register takes the word d in
unfoldable pub feed : List ℕ → List ℕ → ℕ → List ℕ
feed g [] d = []
feed g (r ∷ rs) d = plus (rs ++ (0 ∷ [])) (scale (r ⊕ d) g)

unfoldable pub feeds : List ℕ → List ℕ → List ℕ → List ℕ
feeds g r [] = r
feeds g r (d ∷ ds) = feeds g (feed g r d) ds

-- the k check words
abbrev pub check_words : ℕ → List ℕ → List ℕ
check_words k ds = feeds (coeffs k) (replicate k 0) ds
