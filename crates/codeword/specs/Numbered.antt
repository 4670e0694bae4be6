-- Which of the four sets of C40 is the basic one.
use Rattle.std.specs.Prelude.{Bool, true, false}
use Rattle.codeword.specs.declared.Set.{Set}
use Rattle.codeword.specs.declared.Set.TheVariants.{Basic, Set1, Set2, Set3}

abbrev pub is_basic : Set → Bool
is_basic Basic = true
is_basic Set1 = false
is_basic Set2 = false
is_basic Set3 = false
