-- The codes of a parameter string, one at a time (terminfo(5), "Parameterized Strings").
use Rattle.std.specs.Prelude.{ℕ, pos, ◌+◌, ◌-◌, ◌*◌, ◌&&◌, ◌||◌, Bool, true, false, cond, List, [], ◌∷◌, Result, Ok}
use Rattle.std.specs.Prelude.{Err, Option, Some, None, nat_le, ◌==◌}
use Rattle.ti_parm.specs.declared.code.Action.{Action}
use Rattle.ti_parm.specs.declared.code.Action.TheVariants.{Literal, Push, Parameter, Set, Get, Operate, Change, Length}
use Rattle.ti_parm.specs.declared.code.Action.TheVariants.{Increment, Character, Show}
use Rattle.ti_parm.specs.declared.formats.Conversion.{Conversion}
use Rattle.ti_parm.specs.declared.formats.Conversion.TheVariants.{Decimal, Octal, LowerHex, UpperHex, Text}
use Rattle.ti_parm.specs.declared.formats.Flags.{Flags}
use Rattle.ti_parm.specs.declared.formats.Format.{Format}
use Rattle.ti_parm.specs.declared.code.Operator.TheVariants.{Add, Subtract, Multiply, Divide, Remainder, BitAnd, BitOr}
use Rattle.ti_parm.specs.declared.code.Operator.TheVariants.{BitXor, Equal, Greater, Less, Both, Either}
use Rattle.ti_parm.specs.declared.code.Unary.TheVariants.{Not, Complement}
use Rattle.ti_parm.specs.declared.code.Variable.{Variable}
use Rattle.ti_parm.specs.declared.code.Variable.TheVariants.{Dynamic, Static}
use Rattle.ti_parm.specs.declared.code.Code.{Code}
use Rattle.ti_parm.specs.declared.code.Code.TheVariants.{Act, If, Of}
use Rattle.ti_parm.specs.declared.code.Mark.TheVariants.{Then as ThenMark, Else as ElseMark, End as EndMark}
use Rattle.ti_parm.specs.declared.fault.ParmFault.{ParmFault}
use Rattle.ti_parm.specs.declared.fault.ParmFault.TheVariants.{BadCode}

abbrev pub is_digit : ℕ → Bool
is_digit b = nat_le 48 b && nat_le b 57

-- the value of the digit that a text begins with, and the rest
abbrev pub digit_at : List ℕ → Option (ℕ × List ℕ)
digit_at [] = None
digit_at (b ∷ rest) = cond (is_digit b) (Some (b - 48, rest)) None

-- the number that a text begins with, if digits before it make n
abbrev pub number_on : ℕ → List ℕ → ℕ
number_on n [] = n
number_on n (b ∷ rest) = cond (is_digit b) (number_on (10 * n + (b - 48)) rest) n

-- the rest after the digits that a text begins with
abbrev pub behind_digits : List ℕ → List ℕ
behind_digits [] = []
behind_digits (b ∷ rest) = cond (is_digit b) (behind_digits rest) (b ∷ rest)

abbrev pub Read : Type 0
Read = Result (Code × List ℕ) ParmFault

-- a code of two bytes: `%` and b
abbrev pub short_code : ℕ → Option Code
short_code b =
    cond (b == 37) (Some (Act (Literal 37)))
    (cond (b == 99) (Some (Act Character))
    (cond (b == 108) (Some (Act Length))
    (cond (b == 43) (Some (Act (Operate Add)))
    (cond (b == 45) (Some (Act (Operate Subtract)))
    (cond (b == 42) (Some (Act (Operate Multiply)))
    (cond (b == 47) (Some (Act (Operate Divide)))
    (cond (b == 109) (Some (Act (Operate Remainder)))
    (cond (b == 38) (Some (Act (Operate BitAnd)))
    (cond (b == 124) (Some (Act (Operate BitOr)))
    (cond (b == 94) (Some (Act (Operate BitXor)))
    (cond (b == 61) (Some (Act (Operate Equal)))
    (cond (b == 62) (Some (Act (Operate Greater)))
    (cond (b == 60) (Some (Act (Operate Less)))
    (cond (b == 65) (Some (Act (Operate Both)))
    (cond (b == 79) (Some (Act (Operate Either)))
    (cond (b == 33) (Some (Act (Change Not)))
    (cond (b == 126) (Some (Act (Change Complement)))
    (cond (b == 105) (Some (Act Increment))
    (cond (b == 63) (Some If)
    (cond (b == 116) (Some (Of ThenMark))
    (cond (b == 101) (Some (Of ElseMark))
    (cond (b == 59) (Some (Of EndMark)) None))))))))))))))))))))))

abbrev pub is_flag : ℕ → Bool
is_flag b = b == 45 || b == 43 || b == 35 || b == 48 || b == 32

-- the flags with one more
abbrev pub with_flag : ℕ → Flags → Flags
with_flag b f =
    cond (b == 45) (record f { left = true })
    (cond (b == 43) (record f { plus = true })
    (cond (b == 35) (record f { alternate = true })
    (cond (b == 48) (record f { zero = true }) (record f { space = true }))))

abbrev pub no_flags : Flags
no_flags = record { left = false; plus = false; alternate = false; zero = false; space = false }

-- the flags with the one that a text begins with, and the rest
abbrev pub flag_at : Flags → List ℕ → Option (Flags × List ℕ)
flag_at f [] = None
flag_at f (b ∷ rest) = cond (is_flag b) (Some (with_flag b f, rest)) None

-- the flags that a text begins with, added to others
abbrev pub flags_on : Flags → List ℕ → Flags
flags_on f [] = f
flags_on f (b ∷ rest) = cond (is_flag b) (flags_on (with_flag b f) rest) f

-- the rest after the flags that a text begins with
abbrev pub behind_flags : List ℕ → List ℕ
behind_flags [] = []
behind_flags (b ∷ rest) = cond (is_flag b) (behind_flags rest) (b ∷ rest)

abbrev pub conversion : ℕ → Option Conversion
conversion b =
    cond (b == 100) (Some Decimal)
    (cond (b == 111) (Some Octal)
    (cond (b == 120) (Some LowerHex)
    (cond (b == 88) (Some UpperHex)
    (cond (b == 115) (Some Text) None))))

abbrev pub is_byte : Option ℕ → Bool
is_byte None = true
is_byte (Some p) = nat_le p 255

abbrev pub format_of : Flags → ℕ → Option ℕ → Conversion → Format
format_of f width precision kind = record { flags = f; width = width; precision = precision; conversion = kind }

abbrev pub finished : Flags → ℕ → Option ℕ → Conversion → Option Format
finished f width precision kind =
    cond (nat_le width 255 && is_byte precision) (Some (format_of f width precision kind)) None

-- a format as a code
abbrev pub as_code : Format → Code
as_code format = Act (Show format)

abbrev pub read_format : Option Format → List ℕ → Read
read_format None rest = Err BadCode
read_format (Some format) rest = Ok (as_code format, rest)

abbrev pub read_conversion : Flags → ℕ → Option ℕ → Option Conversion → List ℕ → Read
read_conversion f width precision None rest = Err BadCode
read_conversion f width precision (Some kind) rest = read_format (finished f width precision kind) rest

-- after the precision: one of `d o x X s`
abbrev pub conversion_code : Flags → ℕ → Option ℕ → List ℕ → Read
conversion_code f width precision [] = Err BadCode
conversion_code f width precision (b ∷ rest) = read_conversion f width precision (conversion b) rest

-- the precision that a text begins with: `.` and digits
abbrev pub precision_at : List ℕ → Option ℕ
precision_at [] = None
precision_at (b ∷ rest) = cond (b == 46) (Some (number_on 0 rest)) None

abbrev pub behind_precision : List ℕ → List ℕ
behind_precision [] = []
behind_precision (b ∷ rest) = cond (b == 46) (behind_digits rest) (b ∷ rest)

-- A format after its `%` and `:`: flags, a width, perhaps `.` and a precision, and a conversion. Width and precision
-- are at most 255.
abbrev pub format_code : List ℕ → Read
format_code text =
    let digits = behind_flags text in
    let point = behind_digits digits in
    conversion_code (flags_on no_flags text) (number_on 0 digits) (precision_at point) (behind_precision point)

-- text that isn't a code of two bytes is a format, whose first flag is then neither `-` nor `+`
abbrev pub read_short : Option Code → ℕ → List ℕ → Read
read_short None b rest = format_code (b ∷ rest)
read_short (Some code) b rest = Ok (code, rest)

-- after `%p`: a digit from `1` to `9`
abbrev pub parameter_code : List ℕ → Read
parameter_code [] = Err BadCode
parameter_code (b ∷ rest) = cond (nat_le 49 b && nat_le b 57) (Ok (Act (Parameter (b - 49)), rest)) (Err BadCode)

-- a variable by its letter: `a` to `z` are dynamic, `A` to `Z` static
abbrev pub variable : ℕ → Option Variable
variable b =
    cond (nat_le 97 b && nat_le b 122) (Some (Dynamic (b - 97)))
    (cond (nat_le 65 b && nat_le b 90) (Some (Static (b - 65))) None)

abbrev pub read_variable : (Variable → Action) → Option Variable → List ℕ → Read
read_variable f None rest = Err BadCode
read_variable f (Some v) rest = Ok (Act (f v), rest)

-- after `%P` and `%g`: a letter
abbrev pub variable_code : (Variable → Action) → List ℕ → Read
variable_code f [] = Err BadCode
variable_code f (b ∷ rest) = read_variable f (variable b) rest

-- after `%'`: any byte, and `'`
abbrev pub character_code : List ℕ → Read
character_code (b ∷ c ∷ rest) = cond (c == 39) (Ok (Act (Push (pos b)), rest)) (Err BadCode)
character_code _ = Err BadCode

-- after the digits of `%{digits}`
abbrev pub read_number : ℕ → List ℕ → Read
read_number n [] = Err BadCode
read_number n (b ∷ rest) = cond (b == 125 && nat_le n 2147483647) (Ok (Act (Push (pos n)), rest)) (Err BadCode)

-- after `%{`: at least one digit
abbrev pub number_code : List ℕ → Read
number_code [] = Err BadCode
number_code (b ∷ rest) =
    cond (is_digit b) (read_number (number_on 0 (b ∷ rest)) (behind_digits (b ∷ rest))) (Err BadCode)

-- after a `%`
abbrev pub percent_code : List ℕ → Read
percent_code [] = Err BadCode
percent_code (b ∷ rest) =
    cond (b == 112) (parameter_code rest)
    (cond (b == 80) (variable_code Set rest)
    (cond (b == 103) (variable_code Get rest)
    (cond (b == 39) (character_code rest)
    (cond (b == 123) (number_code rest)
    (cond (b == 58) (format_code rest)
    (read_short (short_code b) b rest))))))

-- the first code of a text, and the rest; a byte other than `%` is written as it is
unfoldable pub code_at : List ℕ → Read
code_at [] = Err BadCode
code_at (b ∷ rest) = cond (b == 37) (percent_code rest) (Ok (Act (Literal b), rest))
