-- The answer of squeezing, as its struct has it.
use Rattle.std.specs.Prelude.{List, length}
use Rattle.day_file.specs.File.{Scan, bytes_of}
use Rattle.squeeze.specs.Squeeze.{live_ones}
use Rattle.squeeze.specs.declared.Squeezed.{Squeezed}

-- the number of live records, and the file's new length
abbrev pub squeezed_answer : List Scan → Squeezed
squeezed_answer rs = record { live = length (live_ones rs); length = length (bytes_of (live_ones rs)) }
