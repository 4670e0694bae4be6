-- What a result of the code says, in the words of the definitions.
use Rattle.std.specs.Prelude.{ℕ, Ok, Err, List, ◌++◌, codes}
use Rattle.std.specs.Fmt.{decimal}
use Rattle.std.specs.declared.result.Result.{Result}
use Rattle.refusal.specs.declared.Reason.{Reason}
use Rattle.refusal.specs.declared.Reason.TheVariants.{CountNoCapacity, ForbiddenCodeword, PairOutside, WrongValue, TextTooLong, LentTooShort, CharacterAbove127, LargestNoCapacity, NoSizeFits, HeaderTooShort, NotDc, UnknownVersion, WrongHeaderCharacter, WrongPerimeter, NoMark, UnknownIdentifier, ZoneEndsInside, WrongCharacter, DataTooShort, IdentifierRepeated, SignatureLength, SignatureCharacter, SpareBits, Annex, DataTooLong, FixedCut, TooManyFields, TypeNotCovered, IdentifierMissing, IdentifierNotPermitted, BadRecord, SeveralBlocks, NoneNear, BadFile, FileFull, NoScan, CountFull, WrongPad}
use Rattle.refusal.specs.declared.Refusal.{Refusal}
use Rattle.refusal.specs.Answers.{Answer, good, refused}
use Rattle.refusal.specs.Numbers.{count_no_capacity, forbidden_codeword, pair_outside, wrong_value, text_too_long, lent_too_short, character_above_127, largest_no_capacity, no_size_fits, header_too_short, not_dc, unknown_version, wrong_header_character, wrong_perimeter, no_mark, unknown_identifier, zone_ends_inside, wrong_character, data_too_short, identifier_repeated, signature_length, signature_character, spare_bits, annex, data_too_long, fixed_cut, too_many_fields, type_not_covered, identifier_missing, identifier_not_permitted, bad_record, several_blocks, none_near, bad_file, file_full, no_scan, count_full, wrong_pad}

-- the number of each reason
abbrev pub number_of : Reason → ℕ
number_of CountNoCapacity = count_no_capacity
number_of ForbiddenCodeword = forbidden_codeword
number_of PairOutside = pair_outside
number_of WrongValue = wrong_value
number_of TextTooLong = text_too_long
number_of LentTooShort = lent_too_short
number_of CharacterAbove127 = character_above_127
number_of LargestNoCapacity = largest_no_capacity
number_of NoSizeFits = no_size_fits
number_of HeaderTooShort = header_too_short
number_of NotDc = not_dc
number_of UnknownVersion = unknown_version
number_of WrongHeaderCharacter = wrong_header_character
number_of WrongPerimeter = wrong_perimeter
number_of NoMark = no_mark
number_of UnknownIdentifier = unknown_identifier
number_of ZoneEndsInside = zone_ends_inside
number_of WrongCharacter = wrong_character
number_of DataTooShort = data_too_short
number_of IdentifierRepeated = identifier_repeated
number_of SignatureLength = signature_length
number_of SignatureCharacter = signature_character
number_of SpareBits = spare_bits
number_of Annex = annex
number_of DataTooLong = data_too_long
number_of FixedCut = fixed_cut
number_of TooManyFields = too_many_fields
number_of TypeNotCovered = type_not_covered
number_of IdentifierMissing = identifier_missing
number_of IdentifierNotPermitted = identifier_not_permitted
number_of BadRecord = bad_record
number_of SeveralBlocks = several_blocks
number_of NoneNear = none_near
number_of BadFile = bad_file
number_of FileFull = file_full
number_of NoScan = no_scan
number_of CountFull = count_full
number_of WrongPad = wrong_pad

-- a value, or the number and the place of a refusal
abbrev pub says : {A : Type 0} → Result A Refusal → Answer A
says (Ok a) = good a
says (Err f) = refused (number_of f.reason) f.place

-- the answer with its value turned into another
abbrev pub turned : {A B : Type 0} → (A → B) → Answer A → Answer B
turned f (good a) = good (f a)
turned f (refused k p) = refused k p

-- a refusal in words
abbrev pub shown : Refusal → List ℕ
shown f = codes "refused " ++ decimal (number_of f.reason) ++ codes " at place " ++ decimal f.place
