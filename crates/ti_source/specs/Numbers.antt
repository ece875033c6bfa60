-- The numbers of terminfo(5): decimal, hexadecimal after 0x, octal after a 0.
use Rattle.std.specs.Prelude.{ℕ, ◌+◌, ◌*◌, ◌-◌, ◌&&◌, List, [], ◌∷◌, Option, Some, None, Result, Ok, Err, if◌then◌else◌}
use Rattle.std.specs.Prelude.{◌==◌, nat_le, nat_lt, option_and_then}
use Rattle.ti_source.specs.declared.types.FaultKind.{FaultKind}
use Rattle.ti_source.specs.declared.types.FaultKind.TheVariants.{BadNumber, NumberRange}
use Rattle.ti_source.specs.Layout.{trim_end}

abbrev pub digit_value : ℕ → Option ℕ
digit_value b =
    if nat_le 48 b && nat_le b 57 then Some (b - 48)
    else (if nat_le 97 b && nat_le b 102 then Some (b - 87)
    else (if nat_le 65 b && nat_le b 70 then Some (b - 55)
    else None))

-- a digit of this base
abbrev pub below_base : ℕ → Option ℕ → Option ℕ
below_base base None = None
below_base base (Some digit) = if nat_lt digit base then Some digit else None

unfoldable pub digit_in : ℕ → ℕ → Option ℕ
digit_in base b = below_base base (digit_value b)

-- the number spelled by digits that follow those of a number
abbrev pub digits_from : ℕ → ℕ → List ℕ → Option ℕ
digits_from base before [] = Some before
digits_from base before (b ∷ rest) =
    option_and_then (λ digit. digits_from base (before * base + digit) rest) (digit_in base b)

-- at least one digit
abbrev pub digits_of : ℕ → List ℕ → Option ℕ
digits_of base [] = None
digits_of base (b ∷ rest) = digits_from base 0 (b ∷ rest)

-- the number after a 0: 0 itself, hexadecimal, or octal
abbrev pub behind_zero : List ℕ → Option ℕ
behind_zero [] = Some 0
behind_zero (b ∷ rest) = if b == 120 then digits_of 16 rest else digits_from 8 0 (b ∷ rest)

-- the number that a text spells, or None if it isn't a number
unfoldable pub spelled_number : List ℕ → Option ℕ
spelled_number [] = None
spelled_number (b ∷ rest) = if b == 48 then behind_zero rest else digits_of 10 (b ∷ rest)

-- a number, or the least that is too great in place of any such
abbrev pub capped : ℕ → ℕ
capped number = if nat_le number 2147483647 then number else 2147483648

-- 2147483647 is the greatest number
abbrev pub ranged : Option ℕ → Result ℕ FaultKind
ranged None = Err BadNumber
ranged (Some number) = if nat_le number 2147483647 then Ok number else Err NumberRange

-- the number after a #, or its fault
unfoldable pub number_of : List ℕ → Result ℕ FaultKind
number_of value = ranged (spelled_number (trim_end value))
