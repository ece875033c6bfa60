-- The escapes in a string's value, terminfo(5), "Types of Capabilities". A value is cut from the left into pieces: an
-- escape, or one byte that means itself.
use Rattle.std.specs.Prelude.{◌≡◌, ℕ, ◌+◌, ◌*◌, ◌-◌, zero, suc, Bool, true, false, ◌&&◌, ◌||◌, List, [], ◌∷◌, length}
use Rattle.std.specs.Prelude.{Option, Some, None, Result, Ok, Err, if◌then◌else◌, ◌==◌, nat_le, nat_lt, bit_and}
use Rattle.std.specs.Prelude.{option_and_then, option_map}
use Rattle.std.specs.Int.{from_bool}
use Rattle.ti_source.specs.declared.escapes.Piece.{Piece}
use Rattle.ti_source.specs.declared.escapes.Decoded.{Decoded}
use Rattle.ti_source.specs.declared.escapes.EscapeFault.{EscapeFault}
use Rattle.ti_source.specs.declared.escapes.EscapeFault.TheVariants.{BadEscape, TooLong, NoMemory}
use Rattle.ti_source.specs.Marks.{comma, colon, backslash, caret}

-- A string can't have a byte 0: it has 128 in its place.
abbrev pub stored : ℕ → ℕ
stored byte = if byte == 0 then 128 else byte

-- a piece of this many bytes that means the byte
abbrev pub plain : ℕ → ℕ → Piece
plain byte used = record { byte = stored byte; used = used; odd = false }

-- a backslash before a byte that has no meaning there, and then means itself
abbrev pub odd_piece : ℕ → Piece
odd_piece byte = record { byte = stored byte; used = 2; odd = true }

-- 0 to 7
abbrev pub is_octal : ℕ → Bool
is_octal byte = nat_le 48 byte && nat_le byte 55

-- E e, n l, r, t, b, f, a, s, and the marks ^ \ , : that mean themselves
abbrev pub letter_value : ℕ → Option ℕ
letter_value letter =
    if letter == 69 || letter == 101 then Some 27
    else (if letter == 110 || letter == 108 then Some 10
    else (if letter == 114 then Some 13
    else (if letter == 116 then Some 9
    else (if letter == 98 then Some 8
    else (if letter == 102 then Some 12
    else (if letter == 97 then Some 7
    else (if letter == 115 then Some 32
    else (if letter == caret || letter == backslash || letter == comma || letter == colon then Some letter
    else None))))))))

-- the piece of a backslash and this letter
abbrev pub letter_from : ℕ → Option ℕ → Piece
letter_from letter None = odd_piece letter
letter_from letter (Some value) = plain value 2

unfoldable pub letter_piece : ℕ → Piece
letter_piece letter = letter_from letter (letter_value letter)

-- A backslash and two octal digits of this value. A third digit belongs to them unless they would exceed 255.
abbrev pub third_at : ℕ → List ℕ → Piece
third_at value [] = plain value 3
third_at value (c ∷ rest) =
    if is_octal c && nat_le (value * 8 + (c - 48)) 255 then plain (value * 8 + (c - 48)) 4 else plain value 3

-- a backslash and one octal digit of this value
abbrev pub second_at : ℕ → List ℕ → Piece
second_at value [] = plain value 2
second_at value (c ∷ rest) = if is_octal c then third_at (value * 8 + (c - 48)) rest else plain value 2

-- the piece of a backslash and the bytes after it; the backslash can't be the last byte
unfoldable pub escape_at : List ℕ → Option Piece
escape_at [] = None
escape_at (b ∷ rest) = if is_octal b then Some (second_at (b - 48) rest) else Some (letter_piece b)

-- ^? is the delete character, and ^x the control character of x
abbrev pub control_of : ℕ → ℕ
control_of b = if b == 63 then 127 else bit_and b 31

-- the piece of a caret and the byte after it, which can't be missing or a comma
unfoldable pub control_at : List ℕ → Option Piece
control_at [] = None
control_at (b ∷ rest) = if b == comma then None else Some (plain (control_of b) 2)

-- the first piece, or None if an escape there has no end
unfoldable pub piece_at : List ℕ → Option Piece
piece_at [] = None
piece_at (b ∷ rest) =
    if b == backslash then escape_at rest else (if b == caret then control_at rest else Some (plain b 1))

-- the bytes of a string, and the number of odd escapes in its value
pub record Decoding : Type 0 where
  pub bytes : List ℕ
  pub odd : ℕ

abbrev pub empty_decoding : Decoding
empty_decoding = record { bytes = []; odd = 0 }

abbrev pub put_first : Piece → Decoding → Decoding
put_first piece decoding = record { bytes = piece.byte ∷ decoding.bytes; odd = from_bool piece.odd + decoding.odd }

-- The decoding of a value after this many more bytes, which belong to the piece before.
unfoldable pub decoding_from : ℕ → List ℕ → Option Decoding
decoding_from passed [] = Some empty_decoding
decoding_from (suc passed) (b ∷ rest) = decoding_from passed rest
decoding_from zero (b ∷ rest) =
    option_and_then (λ piece. option_map (put_first piece) (decoding_from (piece.used - 1) rest)) (piece_at (b ∷ rest))

-- the decoding of a value, or None if it has an escape without an end
abbrev pub decoding_of : List ℕ → Option Decoding
decoding_of text = decoding_from 0 text

-- a string has at most 4095 bytes
abbrev pub bounded : List ℕ → Result (List ℕ) EscapeFault
bounded bytes = if nat_lt 4095 (length bytes) then Err TooLong else Ok bytes

-- the bytes of a string, or the fault of its escapes or else of its length
unfoldable pub unescaped : List ℕ → Result (List ℕ) EscapeFault
unescaped text = elim (decoding_of text) [ None ↦ Err BadEscape | Some decoding ↦ bounded decoding.bytes ]

-- the call's fault is the defined one, unless memory ran out
abbrev pub FailsBy : EscapeFault → Result (List ℕ) EscapeFault → Type 0
FailsBy BadEscape defined = defined ≡ Err BadEscape
FailsBy TooLong defined = defined ≡ Err TooLong
FailsBy NoMemory defined = Unit {0}

-- a decoded string as its bytes
abbrev pub decoding_view : Decoded → Decoding
decoding_view decoded = record { bytes = decoded.bytes.items; odd = decoded.odd }
