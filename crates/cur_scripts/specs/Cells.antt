-- The cells and attributes of a script.
use Rattle.std.specs.Prelude.{ℕ, ◌+◌, ◌*◌, ◌-◌, ◌==◌, ◌&&◌, bit_or, bytes_eq, List, [], ◌∷◌, Option, Some, None}
use Rattle.std.specs.Prelude.{if◌then◌else◌, nat_le}
use Rattle.cur_drawing.specs.declared.cells.Attrs.{Attrs}
use Rattle.cur_drawing.specs.declared.puts.Put.{Put}
use Rattle.cur_scripts.specs.Cuts.{cut_at, ◌>>=◌}
use Rattle.cur_scripts.specs.Numbers.{natural}

abbrev pub attributes : ℕ → Attrs
attributes set = record { 0 = set }

-- standout, underline, reverse, blink, dim, bold, invisible, alternate set
abbrev pub letter_in : ℕ → Option Attrs
letter_in b =
    if b == 83 then Some (attributes 1)
    else (if b == 85 then Some (attributes 2)
    else (if b == 82 then Some (attributes 4)
    else (if b == 75 then Some (attributes 8)
    else (if b == 68 then Some (attributes 16)
    else (if b == 66 then Some (attributes 32)
    else (if b == 73 then Some (attributes 64)
    else (if b == 65 then Some (attributes 128)
    else None)))))))

-- the attributes of the letters, and those of a set before them
abbrev pub letters_after : ℕ → List ℕ → Option Attrs
letters_after before [] = Some (attributes before)
letters_after before (b ∷ rest) = letter_in b >>= λ attrs. letters_after (bit_or before attrs.0) rest

-- at least one letter
abbrev pub letters_in : List ℕ → Option Attrs
letters_in [] = None
letters_in (b ∷ rest) = letters_after 0 (b ∷ rest)

-- letters, or a dash for no attributes
abbrev pub attrs_in : List ℕ → Option Attrs
attrs_in word = if bytes_eq word (45 ∷ []) then Some (attributes 0) else letters_in word

-- a slash and letters, or nothing
abbrev pub marks_in : List ℕ → Option Attrs
marks_in [] = Some (attributes 0)
marks_in (b ∷ letters) = if b == 47 then letters_in letters else None

-- the value of a hexadecimal digit in lower case
abbrev pub hex_digit : ℕ → Option ℕ
hex_digit b =
    if nat_le 48 b && nat_le b 57 then Some (b - 48)
    else (if nat_le 97 b && nat_le b 102 then Some (b - 87)
    else None)

abbrev pub byte_in : ℕ → ℕ → Option ℕ
byte_in high low = hex_digit high >>= λ h. hex_digit low >>= λ l. Some (h * 16 + l)

abbrev pub put : ℕ → Attrs → ℕ → Put
put byte attrs pair = record { byte = byte; attrs = attrs; pair = pair }

-- the pair after a colon, 0 to 63, or else pair 0
abbrev pub styled : ℕ → List ℕ → Option (List ℕ × List ℕ) → Option Put
styled byte text None = marks_in text >>= λ attrs. Some (put byte attrs 0)
styled byte text (Some p) = marks_in p.0 >>= λ attrs. natural 63 p.1 >>= λ pair. Some (put byte attrs pair)

abbrev pub styled_in : ℕ → List ℕ → Option Put
styled_in byte text = styled byte text (cut_at 58 text)

-- two hexadecimal digits, perhaps attributes after a slash, perhaps a pair after a colon
abbrev pub cell_in : List ℕ → Option Put
cell_in (high ∷ low ∷ rest) = byte_in high low >>= λ byte. styled_in byte rest
cell_in _ = None

-- a cell, or a dash for the default one
abbrev pub cell_or : Put → List ℕ → Option Put
cell_or default word = if bytes_eq word (45 ∷ []) then Some default else cell_in word
