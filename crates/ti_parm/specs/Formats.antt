-- Numbers and texts in a format, as C's printf shows an int and a string (X/Open, printf).
use Rattle.std.specs.Prelude.{ℕ, ℤ, pos, negsuc, ◌+◌, ◌-◌, ◌&&◌, Bool, false, true, cond, not, List, [], ◌∷◌, ◌++◌}
use Rattle.std.specs.Prelude.{length, take, replicate, Option, Some, None, Result, Ok, Err, ◌==◌, unsigned_abs}
use Rattle.std.specs.Fmt.{digits}
use Rattle.std.specs.Int.{cast_unsigned, w32}
use Rattle.ti_parm.specs.declared.formats.Conversion.{Conversion}
use Rattle.ti_parm.specs.declared.formats.Conversion.TheVariants.{Decimal, Octal, LowerHex, UpperHex}
use Rattle.ti_parm.specs.declared.formats.Conversion.TheVariants.{Text as TextConversion}
use Rattle.ti_parm.specs.declared.formats.Format.{Format}
use Rattle.ti_parm.specs.declared.fault.ParmFault.{ParmFault}
use Rattle.ti_parm.specs.declared.fault.ParmFault.TheVariants.{Underflow, WrongKind}
use Rattle.ti_parm.specs.Value.{Values, Number, Text}

abbrev pub base_of : Conversion → ℕ
base_of Decimal = 10
base_of Octal = 8
base_of LowerHex = 16
base_of UpperHex = 16
base_of TextConversion = 10

abbrev pub is_upper : Conversion → Bool
is_upper UpperHex = true
is_upper _ = false

-- the number whose digits are shown: the magnitude, or for `o x X` the two's complement
abbrev pub magnitude : Conversion → ℤ → ℕ
magnitude Decimal n = unsigned_abs n
magnitude Octal n = cast_unsigned w32 n
magnitude LowerHex n = cast_unsigned w32 n
magnitude UpperHex n = cast_unsigned w32 n
magnitude TextConversion n = unsigned_abs n

-- the least number of digits, which is the precision
abbrev pub least_digits : Option ℕ → ℕ
least_digits None = 1
least_digits (Some p) = p

abbrev pub has_none : Option ℕ → Bool
has_none None = true
has_none (Some p) = false

-- the digits: none for the value 0 with precision 0
abbrev pub digits_shown : Format → ℕ → List ℕ
digits_shown f m =
    cond (m == 0 && least_digits f.precision == 0) [] (digits (base_of f.conversion) (is_upper f.conversion) m)

-- the zeros that fill up the precision
abbrev pub zeros_shown : Format → ℕ → ℕ
zeros_shown f m = least_digits f.precision - length (digits_shown f m)

abbrev pub begins_with_zero : List ℕ → Bool
begins_with_zero [] = false
begins_with_zero (b ∷ rest) = b == 48

abbrev pub sign_of : Format → ℤ → List ℕ
sign_of f (negsuc n) = 45 ∷ []
sign_of f (pos n) = cond f.flags.plus (43 ∷ []) (cond f.flags.space (32 ∷ []) [])

-- the bytes before the digits: a sign, or under `#` a `0` unless the first digit is one, or `0x` or `0X` unless the
-- value is 0
abbrev pub prefix_of : Conversion → Format → ℤ → List ℕ
prefix_of Decimal f n = sign_of f n
prefix_of Octal f n =
    cond (f.flags.alternate && not (begins_with_zero
    (replicate (zeros_shown f (cast_unsigned w32 n)) 48 ++ digits_shown f (cast_unsigned w32 n)))) (48 ∷ []) []
prefix_of LowerHex f n = cond (f.flags.alternate && not (cast_unsigned w32 n == 0)) (48 ∷ 120 ∷ []) []
prefix_of UpperHex f n = cond (f.flags.alternate && not (cast_unsigned w32 n == 0)) (48 ∷ 88 ∷ []) []
prefix_of TextConversion f n = []

-- spaces, a prefix, zeros, a text, spaces
abbrev pub laid_out : ℕ → List ℕ → ℕ → List ℕ → ℕ → List ℕ
laid_out before prefix zeros text behind =
    replicate before 32 ++ prefix ++ replicate zeros 48 ++ text ++ replicate behind 32

-- padded to the width: on the right under `-`, otherwise with zeros under `0` if there is no precision, otherwise on
-- the left
abbrev pub padded : Format → List ℕ → ℕ → List ℕ → List ℕ
padded f prefix zeros text =
    let room = f.width - (length prefix + zeros + length text) in
    cond f.flags.left (laid_out 0 prefix zeros text room)
    (cond (f.flags.zero && has_none f.precision) (laid_out 0 prefix (zeros + room) text 0)
    (laid_out room prefix zeros text 0))

-- a number in a format
unfoldable pub number_shown : Format → ℤ → List ℕ
number_shown f n =
    padded f (prefix_of f.conversion f n) (zeros_shown f (magnitude f.conversion n))
    (digits_shown f (magnitude f.conversion n))

-- a text cut to the precision
abbrev pub cut : Option ℕ → List ℕ → List ℕ
cut None text = text
cut (Some p) text = take p text

-- a text in a format; of the flags only `-` counts
unfoldable pub text_shown : Format → List ℕ → List ℕ
text_shown f text =
    let shown = cut f.precision text in
    let room = f.width - length shown in
    cond f.flags.left (laid_out 0 [] 0 shown room) (laid_out room [] 0 shown 0)

abbrev pub shows_text : Conversion → Bool
shows_text TextConversion = true
shows_text _ = false

-- takes a value off the stack, and shows it
abbrev pub shown : Format → Values → Result (List ℕ × Values) ParmFault
shown f [] = Err Underflow
shown f (Number n ∷ rest) = cond (shows_text f.conversion) (Err WrongKind) (Ok (number_shown f n, rest))
shown f (Text bytes ∷ rest) = cond (shows_text f.conversion) (Ok (text_shown f bytes, rest)) (Err WrongKind)
