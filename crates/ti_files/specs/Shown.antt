-- Bytes as they can be shown.
use Rattle.std.specs.Prelude.{ℕ, ◌&&◌, List, [], ◌∷◌, if◌then◌else◌, nat_le, flat_map}
use Rattle.ti_source.specs.Prints.{octal}

-- a byte outside 32 to 126, which a terminal could take for a part of a sequence, is a backslash and three octal digits
abbrev pub shown_byte : ℕ → List ℕ
shown_byte b = if nat_le 32 b && nat_le b 126 then b ∷ [] else octal b

abbrev pub shown : List ℕ → List ℕ
shown bytes = flat_map shown_byte bytes
