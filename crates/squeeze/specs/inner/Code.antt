-- What the inner functions are told of a file that was opened. No public promise cites it.
use Rattle.std.specs.Prelude.{ℕ, List}
use Rattle.day_file.specs.File.{Scan}
use Rattle.day_file.specs.Opening.{opened}
use Rattle.day_file.specs.Opens.{list_of}

-- the scans of a file that is good, and none of another
abbrev pub scans_in : (s : List ℕ) (len : ℕ) → List Scan
scans_in s len = list_of (opened s len)
