-- The numbers of document 01's table and of document 02's requests, by name.
use Rattle.std.specs.Prelude.{ℕ}

-- codeword count is no capacity
abbrev pub count_no_capacity : ℕ
count_no_capacity = 1

-- codeword forbidden in its place
abbrev pub forbidden_codeword : ℕ
forbidden_codeword = 2

-- pair outside 1 to 64,000
abbrev pub pair_outside : ℕ
pair_outside = 3

-- value unused in its set, or shift 2 or 3 unfinished
abbrev pub wrong_value : ℕ
wrong_value = 4

-- more than 1,000 characters
abbrev pub text_too_long : ℕ
text_too_long = 5

-- a lent slice too short
abbrev pub lent_too_short : ℕ
lent_too_short = 6

-- character above 127 (symbol writing)
abbrev pub character_above_127 : ℕ
character_above_127 = 7

-- permitted size is no capacity
abbrev pub largest_no_capacity : ℕ
largest_no_capacity = 8

-- no permitted size fits
abbrev pub no_size_fits : ℕ
no_size_fits = 9

-- header too short
abbrev pub header_too_short : ℕ
header_too_short = 10

-- not DC
abbrev pub not_dc : ℕ
not_dc = 11

-- version not 02, 03, 04
abbrev pub unknown_version : ℕ
unknown_version = 12

-- wrong header character
abbrev pub wrong_header_character : ℕ
wrong_header_character = 13

-- perimeter not 01
abbrev pub wrong_perimeter : ℕ
wrong_perimeter = 14

-- no 31 after the header
abbrev pub no_mark : ℕ
no_mark = 15

-- identifier unknown
abbrev pub unknown_identifier : ℕ
unknown_identifier = 16

-- zone ends inside a field
abbrev pub zone_ends_inside : ℕ
zone_ends_inside = 17

-- character outside the type
abbrev pub wrong_character : ℕ
wrong_character = 18

-- data too short
abbrev pub data_too_short : ℕ
data_too_short = 19

-- identifier repeated
abbrev pub identifier_repeated : ℕ
identifier_repeated = 20

-- signature length
abbrev pub signature_length : ℕ
signature_length = 21

-- signature character
abbrev pub signature_character : ℕ
signature_character = 22

-- signature spare bits
abbrev pub spare_bits : ℕ
spare_bits = 23

-- version 04 with a 29 after the 31
abbrev pub annex : ℕ
annex = 24

-- writing: data too long
abbrev pub data_too_long : ℕ
data_too_long = 25

-- writing: cut mark on a fixed field
abbrev pub fixed_cut : ℕ
fixed_cut = 26

-- a 65th field
abbrev pub too_many_fields : ℕ
too_many_fields = 27

-- conformity: type not covered
abbrev pub type_not_covered : ℕ
type_not_covered = 28

-- O identifier missing (place: its row)
abbrev pub identifier_missing : ℕ
identifier_missing = 29

-- identifier not permitted
abbrev pub identifier_not_permitted : ℕ
identifier_not_permitted = 30

-- writing: a record names no row, or its start plus length passes its slice's length
abbrev pub bad_record : ℕ
bad_record = 31

-- check words: a capacity above 174, so more than one block
abbrev pub several_blocks : ℕ
several_blocks = 32

-- mending: no right list lies near enough
abbrev pub none_near : ℕ
none_near = 34

-- day file: not records side by side with their trailer, or above 32,768 bytes
abbrev pub bad_file : ℕ
bad_file = 35

-- day file: no room for one more
abbrev pub file_full : ℕ
file_full = 36

-- day file: no record has the number, or it is withdrawn
abbrev pub no_scan : ℕ
no_scan = 37

-- tally: a count would pass its greatest
abbrev pub count_full : ℕ
count_full = 38

-- a pad that is not what the padding rule gives
abbrev pub wrong_pad : ℕ
wrong_pad = 39
