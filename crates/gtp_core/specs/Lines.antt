-- The lines of the input and the words of a line (GTP 2, "Preprocessing", "Comments", "Command structure"). Which bytes are removed, the order of the steps and the longest line are this project's own.
--     raw_lines bytes      the raw lines, without their line feeds
--     cleaned line      the part of a raw line that counts
--     words_of text      its words
--     request_of line      what a raw line asks for
use Rattle.std.specs.Prelude.{ℕ, ◌+◌, ◌-◌, ◌*◌, Bool, true, false, ◌&&◌, ◌||◌, nat_eq, nat_le, nat_lt, List, [], ◌∷◌, length, Option, Some, None, is_some, if◌then◌else◌}
use Rattle.std.specs.Char.{is_ascii_digit}
use Rattle.std.specs.Str.{all_ascii_digits}

-- The pieces between the bytes with this code, one more than there are such bytes.
abbrev pub with_byte : ℕ → List (List ℕ) → List (List ℕ)
with_byte c [] = (c ∷ []) ∷ []
with_byte c (piece ∷ pieces) = (c ∷ piece) ∷ pieces

abbrev pub parted_at : ℕ → List ℕ → List (List ℕ)
parted_at k [] = [] ∷ []
parted_at k (c ∷ rest) = elim (nat_eq c k) [ true ↦ [] ∷ parted_at k rest | false ↦ with_byte c (parted_at k rest) ]

-- What follows the last line feed is also a line.
abbrev pub raw_lines : List ℕ → List (List ℕ)
raw_lines bytes = parted_at 10 bytes

-- Bytes 0 to 31 except 9 and 10, and byte 127, are ignored.
abbrev pub is_control : ℕ → Bool
is_control c = nat_lt c 9 || (nat_lt 10 c && nat_lt c 32) || nat_eq c 127

-- A tab is a space.
abbrev pub spaced : ℕ → ℕ
spaced c = (if nat_eq c 9 then 32 else c)

-- A line without the bytes that are ignored, and without `#` and what follows it.
abbrev pub cleaned : List ℕ → List ℕ
cleaned [] = []
cleaned (c ∷ rest) = (if is_control c then cleaned rest else (if nat_eq c 35 then [] else spaced c ∷ cleaned rest))

abbrev pub whole_words : List (List ℕ) → List (List ℕ)
whole_words [] = []
whole_words ([] ∷ pieces) = whole_words pieces
whole_words ((c ∷ cs) ∷ pieces) = (c ∷ cs) ∷ whole_words pieces

-- The words are separated by spaces.
abbrev pub words_of : List ℕ → List (List ℕ)
words_of text = whole_words (parted_at 32 text)

-- A number has only digits, and is at most 2147483647. Once a number grows over that, its further digits are not read.
abbrev pub max_number : ℕ
max_number = 2147483647

abbrev pub number_from : ℕ → List ℕ → Option ℕ
number_from value [] = Some value
number_from value (d ∷ digits) =
    (if is_ascii_digit d && nat_le (10 * value + (d - 48)) max_number then number_from (10 * value + (d - 48)) digits else None)

abbrev pub number_named : List ℕ → Option ℕ
number_named [] = None
number_named (d ∷ digits) = number_from 0 (d ∷ digits)

-- A raw line asks for nothing; or it is a bad line; or it asks for what its words say, with the id before them as it is written; no
-- bytes if there is no id.
pub data Request : Type 0 where
  nothing : Request
  bad_line : Request
  asks : (id : List ℕ) (words : List (List ℕ)) → Request

-- A first word of digits is the id, which has to be a number.
abbrev pub request_with : List (List ℕ) → Request
request_with [] = nothing
request_with (word ∷ words) =
    (if all_ascii_digits word then (if is_some (number_named word) then asks word words else bad_line) else asks [] (word ∷ words))

-- The length of the longest raw line. A longer one is a bad line, whatever it holds.
abbrev pub max_line : ℕ
max_line = 4096

abbrev pub request_of : List ℕ → Request
request_of line = (if nat_lt max_line (length line) then bad_line else request_with (words_of (cleaned line)))
