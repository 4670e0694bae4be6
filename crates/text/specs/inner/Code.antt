-- What the answers of the code's functions say, by the definitions.
use Rattle.std.specs.Prelude.{ℕ, suc, List, length, drop, Option, Some, None}
use Rattle.std.proofs.Math.Seq.{slice}
use Rattle.arrayvec.specs.ArrayVec.{ArrayVec}
use Rattle.refusal.specs.Answers.{Answer, good, refused}
use Rattle.refusal.specs.Numbers.{no_mark}
use Rattle.text.specs.Text.{Halves}

-- the place of the mark 31, looked for from the place `from` on
abbrev pub zone_end_says : Option ℕ → (from : ℕ) → List ℕ → Answer Halves
zone_end_says (Some m) from t = good (record { before = slice from m t; behind = drop (suc m) t })
zone_end_says None from t = refused no_mark (length t)

-- the bytes of a signature, as they are kept
abbrev pub kept_bytes : List ℕ → ArrayVec ℕ
kept_bytes l = record { items = l }
