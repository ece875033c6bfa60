-- JSON whose bytes can all be printed.
use Rattle.std.specs.Prelude.{ℕ, ◌+◌, ◌-◌, ◌/◌, ◌%◌, ◌&&◌, List, [], ◌∷◌, ◌++◌, if◌then◌else◌, codes, nat_le, nat_lt}
use Rattle.std.specs.List.{flat_map}
use Rattle.std.specs.Str.{chars}

-- a digit of 0 to 15
abbrev pub hex_digit : ℕ → ℕ
hex_digit n = if nat_lt n 10 then 48 + n else 87 + n

-- an escape of JSON: a unit of UTF-16 in four digits
abbrev pub unit_text : ℕ → List ℕ
unit_text n =
    codes "\\u" ++ (hex_digit (n / 4096) ∷ hex_digit (n / 256 % 16) ∷ hex_digit (n / 16 % 16) ∷ hex_digit (n % 16) ∷ [])

-- a pair of surrogates, for the character that is this far above the first 65536
abbrev pub pair_text : ℕ → List ℕ
pair_text n = unit_text (55296 + n / 1024) ++ unit_text (56320 + n % 1024)

-- a character in UTF-16: one unit, or a pair of surrogates
abbrev pub escaped_char : ℕ → List ℕ
escaped_char c = if nat_lt c 65536 then unit_text c else pair_text (c - 65536)

-- a character that can be printed is written as itself
abbrev pub json_char : ℕ → List ℕ
json_char c = if nat_le 32 c && nat_le c 126 then c ∷ [] else escaped_char c

-- the same JSON: outside its strings it has only characters that can be printed
abbrev pub printable_json : List ℕ → List ℕ
printable_json text = flat_map json_char (chars text)
