-- A file taken apart, by one walk over its records. `proofs/Good` has that this gives the one list whose file it is, and 35 exactly
-- where there is none.
use Rattle.std.specs.Prelude.{ℕ, zero, suc, ◌+◌, ◌-◌, ◌*◌, Bool, ◌&&◌, List, [], ◌∷◌, leb, eqb, length, get_or, take, drop}
use Rattle.refusal.specs.Answers.{Answer, good, ◌>>◌, check}
use Rattle.refusal.specs.Numbers.{lent_too_short, bad_file}
use Rattle.day_file.specs.File.{Scan, most_bytes}

-- the numbers that stand at a place
abbrev pub two_at : List ℕ → ℕ → ℕ
two_at l p = 256 * get_or l p 0 + get_or l (p + 1) 0

abbrev pub four_at : List ℕ → ℕ → ℕ
four_at l p = 16777216 * get_or l p 0 + 65536 * get_or l (p + 1) 0 + 256 * get_or l (p + 2) 0 + get_or l (p + 3) 0

-- the size of the record at the front
abbrev pub size_at : List ℕ → ℕ
size_at l = 3 + two_at l 1

-- the first record, and the first k
abbrev pub scan_at : List ℕ → Scan
scan_at l = record { state = get_or l 0 0; text = take (two_at l 1) (drop 3 l) }

unfoldable pub scans : (k : ℕ) → List ℕ → List Scan
scans zero l = []
scans (suc k) l = scan_at l ∷ scans k (drop (size_at l) l)

-- whether k records stand side by side in l, the first at `at`, and t begins with their starts
unfoldable pub standing : (k at : ℕ) → (l t : List ℕ) → Bool
standing zero at l t = eqb (length l) 0
standing (suc k) at l t =
    leb 3 (length l)
    && (leb (get_or l 0 0) 1
    && (leb (size_at l) (length l)
    && (eqb (four_at t 0) at
    && standing k (at + size_at l) (drop (size_at l) l) (drop 4 t))))

-- the record count and the trailer's own start, as they stand at the end of a file
abbrev pub count_in : List ℕ → ℕ
count_in f = four_at f (length f - 8)

abbrev pub trailer_in : List ℕ → ℕ
trailer_in f = four_at f (length f - 4)

-- THE SCANS OF A FILE, or 35
unfoldable pub records : List ℕ → Answer (List Scan)
records f = do
  check (leb (length f) most_bytes) bad_file 0
  check (leb 8 (length f)) bad_file 0
  check (eqb (trailer_in f + 4 * count_in f + 8) (length f)) bad_file 0
  check (standing (count_in f) 0 (take (trailer_in f) f) (drop (trailer_in f) f)) bad_file 0
  good (scans (count_in f) (take (trailer_in f) f))

-- THE SCANS OF A FILE IN A LENT SLICE, with its length beside it: 6 for a shorter slice, then 35
unfoldable pub opened : (s : List ℕ) → (len : ℕ) → Answer (List Scan)
opened s len = do
  check (leb most_bytes (length s)) lent_too_short 0
  check (leb len most_bytes) bad_file 0
  records (take len s)
