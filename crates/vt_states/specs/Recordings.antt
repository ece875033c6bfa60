-- Recordings of today's programs, reduced to the characters and sequences that T has (ECMA-48 5.6, command strings
-- and character strings; xterm's control sequences, OSC; Unicode, table 3-7).
use Rattle.std.specs.Prelude.{ℕ, ◌+◌, ◌==◌, ◌&&◌, ◌||◌, nat_le, Bool, List, [], ◌∷◌, codes, length, take, drop}
use Rattle.std.specs.Prelude.{slice_index_or}
use Rattle.std.specs.Prelude.{if◌then◌else◌, zero, suc}
use Rattle.std.specs.List.{flat_map, starts_with}

-- ---- characters above 127, in UTF-8

abbrev pub at : List ℕ → ℕ → ℕ
at bytes k = slice_index_or bytes k 0

abbrev pub is_between : ℕ → ℕ → ℕ → Bool
is_between low high b = nat_le low b && nat_le b high

abbrev pub continues : ℕ → Bool
continues b = is_between 128 191 b

abbrev pub begins_two : ℕ → ℕ → Bool
begins_two a b = is_between 194 223 a && continues b

abbrev pub begins_three : ℕ → ℕ → Bool
begins_three a b =
    ((a == 224) && is_between 160 191 b) || ((a == 237) && is_between 128 159 b)
    || ((is_between 225 236 a || is_between 238 239 a) && continues b)

abbrev pub begins_four : ℕ → ℕ → Bool
begins_four a b =
    ((a == 240) && is_between 144 191 b) || ((a == 244) && is_between 128 143 b)
    || (is_between 241 243 a && continues b)

-- the length of the first character, 1 if it isn't valid
abbrev pub character_length : List ℕ → ℕ
character_length bytes =
    if begins_two (at bytes 0) (at bytes 1) then 2
    else (if begins_three (at bytes 0) (at bytes 1) && continues (at bytes 2) then 3
    else (if begins_four (at bytes 0) (at bytes 1) && (continues (at bytes 2) && continues (at bytes 3)) then 4
    else 1))

-- ---- strings: DCS, SOS, OSC, PM and APC

abbrev pub introduces : ℕ → Bool
introduces b = (b == 80) || (b == 88) || is_between 93 95 b

abbrev pub begins_string : List ℕ → Bool
begins_string bytes = (at bytes 0 == 27) && introduces (at bytes 1)

-- ESC (of ST, or of a following sequence), CAN and SUB end a string without being part of it
abbrev pub cuts : ℕ → Bool
cuts b = (b == 27) || (b == 24) || (b == 26)

-- the number of bytes of a string up to its end; BEL is the last byte of an OSC
abbrev pub up_to_end : Bool → List ℕ → ℕ
up_to_end osc [] = 0
up_to_end osc (b ∷ bytes) = if cuts b then 0 else (if osc && (b == 7) then 1 else 1 + up_to_end osc bytes)

abbrev pub string_length : List ℕ → ℕ
string_length bytes = 2 + up_to_end (at bytes 1 == 93) (drop 2 bytes)

-- ---- the parts of a recording

abbrev pub is_character : List ℕ → Bool
is_character part = nat_le 128 (at part 0)

abbrev pub part_length : List ℕ → ℕ
part_length bytes =
    if begins_string bytes then string_length bytes else (if is_character bytes then character_length bytes else 1)

-- at most n parts, one after another
abbrev pub parts : ℕ → List ℕ → List (List ℕ)
parts zero bytes = []
parts (suc n) [] = []
parts (suc n) (b ∷ bytes) =
    take (part_length (b ∷ bytes)) (b ∷ bytes) ∷ parts n (drop (part_length (b ∷ bytes)) (b ∷ bytes))

-- a part as T gets it: nothing of a string, a question mark for a character above 127
abbrev pub shown : List ℕ → List ℕ
shown part = if begins_string part then [] else (if is_character part then 63 ∷ [] else part)

abbrev pub dropped : List ℕ → ℕ
dropped part = if begins_string part then length part else 0

abbrev pub replaced : List ℕ → ℕ
replaced part = if begins_string part then 0 else (if is_character part then 1 else 0)

abbrev pub all_parts : List ℕ → List (List ℕ)
all_parts bytes = parts (length bytes) bytes

abbrev pub total : (List ℕ → ℕ) → List (List ℕ) → ℕ
total f [] = 0
total f (part ∷ rest) = f part + total f rest

-- the whole recording as T gets it
abbrev pub plain_text : List ℕ → List ℕ
plain_text bytes = flat_map shown (all_parts bytes)

-- ---- the lines of script(1) (util-linux)

-- the number of bytes up to the first LF, it too
abbrev pub line_length : List ℕ → ℕ
line_length [] = 0
line_length (b ∷ bytes) = if b == 10 then 1 else 1 + line_length bytes

abbrev pub begins : List ℕ → List ℕ → Bool
begins bytes word = starts_with (λ a b. a == b) bytes word

-- the length of the line that script(1) begins a recording with, 0 if there is none
abbrev pub header_length : List ℕ → ℕ
header_length bytes = if begins bytes (codes "Script started on ") then line_length bytes else 0

-- the line that script(1) ends a recording with, and nothing behind it
abbrev pub is_footer : List ℕ → Bool
is_footer bytes = begins bytes (codes "Script done on ") && (line_length bytes == length bytes)

-- the number of bytes before the LF that script(1) puts before its last line
abbrev pub unended_length : List ℕ → ℕ
unended_length [] = 0
unended_length (b ∷ bytes) = if (b == 10) && is_footer bytes then 0 else 1 + unended_length bytes

abbrev pub unended : List ℕ → List ℕ
unended bytes = take (unended_length bytes) bytes

-- a recording without these two lines
abbrev pub unscripted : List ℕ → List ℕ
unscripted bytes = unended (drop (header_length bytes) bytes)
