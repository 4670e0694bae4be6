-- Taking back the withdrawn room (document 02, K8): the live records in their old order, with new numbers.
use Rattle.std.specs.Prelude.{ℕ, zero, suc, ◌+◌, ◌-◌, Bool, ◌&&◌, List, [], ◌∷◌, ◌++◌, leb, eqb, length, replicate}
use Rattle.refusal.specs.Pick.{pick}
use Rattle.refusal.specs.Answers.{Answer, good, refused, ◌>>=◌, ◌>>◌, check}
use Rattle.refusal.specs.Numbers.{lent_too_short}
use Rattle.refusal.specs.Over.{over}
use Rattle.day_file.specs.File.{Scan, bytes_of}
use Rattle.day_file.specs.Opening.{opened}

abbrev pub is_live : Scan → Bool
is_live r = eqb r.state 1

-- the live scans, in their old order
unfoldable pub live_ones : List Scan → List Scan
live_ones [] = []
live_ones (r ∷ rs) = pick (is_live r) (r ∷ live_ones rs) (live_ones rs)

-- their old numbers, where the first record has the number i
unfoldable pub old_numbers : (i : ℕ) → List Scan → List ℕ
old_numbers i [] = []
old_numbers i (r ∷ rs) = pick (is_live r) (i ∷ old_numbers (suc i) rs) (old_numbers (suc i) rs)

-- n numbers from i on
unfoldable pub up_from : (i n : ℕ) → List ℕ
up_from i zero = []
up_from i (suc n) = i ∷ up_from (suc i) n

-- what the live records need in a file: 7 and the text, for each
unfoldable pub live_sum : List Scan → ℕ
live_sum [] = 0
live_sum (r ∷ rs) = pick (is_live r) (7 + length r.text) 0 + live_sum rs

-- THE SCANS OF A FILE TO BE SQUEEZED, live and withdrawn: 6 and 35 as for every day file, then 6 for a list with fewer entries than live scans
unfoldable pub squeezing : (s : List ℕ) (len olds news : ℕ) → Answer (List Scan)
squeezing s len olds news = do
  rs ← opened s len
  check (leb (length (live_ones rs)) olds && leb (length (live_ones rs)) news) lent_too_short 0
  good rs

-- the old file's bytes afterwards: the file of the live scans, and zeros up to the old end
abbrev pub squeezed : (len : ℕ) → List Scan → List ℕ
squeezed len rs = bytes_of (live_ones rs) ++ replicate (len - length (bytes_of (live_ones rs))) 0

-- the slice afterwards; a refusal leaves all
abbrev pub squeezed_slice : (len : ℕ) → Answer (List Scan) → List ℕ → List ℕ
squeezed_slice len (good rs) s = over (squeezed len rs) s
squeezed_slice len (refused k p) s = s

-- the two lists afterwards: an entry for each live scan, in the order of the file, and the rest as it was
abbrev pub olds_after : Answer (List Scan) → List ℕ → List ℕ
olds_after (good rs) l = over (old_numbers 0 rs) l
olds_after (refused k p) l = l

abbrev pub news_after : Answer (List Scan) → List ℕ → List ℕ
news_after (good rs) l = over (up_from 0 (length (live_ones rs))) l
news_after (refused k p) l = l
