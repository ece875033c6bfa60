-- The effect of the codes of terminfo(5), "Parameterized Strings", on the values of the stack. A stack is a list, its
-- top first.
use Rattle.std.specs.Prelude.{ℕ, ℤ, pos, negsuc, ◌+ℤ◌, ◌-ℤ◌, ◌*ℤ◌, ◌&&◌, ◌||◌, Bool, cond, not, [], ◌∷◌, length, Result}
use Rattle.std.specs.Prelude.{Ok, Err, int_div, int_le, int_lt, int_rem, nat_eq, nat_le}
use Rattle.std.specs.Int.{int_bit_and, int_bit_not, int_bit_or, int_bit_xor, w32}
use Rattle.std.specs.Ordering.{int_eq}
use Rattle.ti_parm.specs.Fault.{◌>>=◌}
use Rattle.ti_parm.specs.Value.{Number, Text, Values}
use Rattle.ti_parm.specs.declared.code.Operator.{Operator}
use Rattle.ti_parm.specs.declared.code.Operator.TheVariants.{Add, Subtract, Multiply, Divide, Remainder, BitAnd, BitOr}
use Rattle.ti_parm.specs.declared.code.Operator.TheVariants.{BitXor, Equal, Greater, Less, Both, Either}
use Rattle.ti_parm.specs.declared.code.Unary.{Unary}
use Rattle.ti_parm.specs.declared.code.Unary.TheVariants.{Not, Complement}
use Rattle.ti_parm.specs.declared.fault.ParmFault.{ParmFault}
use Rattle.ti_parm.specs.declared.fault.ParmFault.TheVariants.{BadChar, Overflow, Underflow, WrongKind}

-- whether a number fits in 32 bits with sign
abbrev pub is_int : ℤ → Bool
is_int z = int_le (negsuc 2147483647) z && int_le z (pos 2147483647)

-- a result, if it fits
abbrev pub fitting : ℤ → Result ℤ ParmFault
fitting z = cond (is_int z) (Ok z) (Err Overflow)

abbrev pub is_true : ℤ → Bool
is_true z = not (int_eq z (pos 0))

abbrev pub truth : Bool → ℤ
truth b = cond b (pos 1) (pos 0)

-- the result of a binary operator for its left and right operands: division rounds toward zero, a remainder has the
-- left operand's sign, both are 0 for the divisor 0, and bits are those of the two's complement
abbrev pub operate : Operator → ℤ → ℤ → Result ℤ ParmFault
operate Add x y = fitting (x +ℤ y)
operate Subtract x y = fitting (x -ℤ y)
operate Multiply x y = fitting (x *ℤ y)
operate Divide x y = cond (int_eq y (pos 0)) (Ok (pos 0)) (fitting (int_div x y))
operate Remainder x y = cond (int_eq y (pos 0)) (Ok (pos 0)) (Ok (int_rem x y))
operate BitAnd x y = Ok (int_bit_and w32 x y)
operate BitOr x y = Ok (int_bit_or w32 x y)
operate BitXor x y = Ok (int_bit_xor w32 x y)
operate Equal x y = Ok (truth (int_eq x y))
operate Greater x y = Ok (truth (int_lt y x))
operate Less x y = Ok (truth (int_lt x y))
operate Both x y = Ok (truth (is_true x && is_true y))
operate Either x y = Ok (truth (is_true x || is_true y))

-- the result of a unary operator
abbrev pub apply_unary : Unary → ℤ → ℤ
apply_unary Not x = truth (not (is_true x))
apply_unary Complement x = int_bit_not w32 x

-- takes a number off the stack
abbrev pub pop_number : Values → Result (ℤ × Values) ParmFault
pop_number [] = Err Underflow
pop_number (Number n ∷ rest) = Ok (n, rest)
pop_number (Text bytes ∷ rest) = Err WrongKind

-- the right operand is on top; both are popped before their kinds are checked
abbrev pub binary : Operator → Values → Result Values ParmFault
binary operator [] = Err Underflow
binary operator (right ∷ []) = Err Underflow
binary operator (Number y ∷ Number x ∷ rest) = operate operator x y >>= λ n. Ok (Number n ∷ rest)
binary operator (Number y ∷ Text x ∷ rest) = Err WrongKind
binary operator (Text y ∷ left ∷ rest) = Err WrongKind

abbrev pub unary : Unary → Values → Result Values ParmFault
unary operator stack = pop_number stack >>= λ x. Ok (Number (apply_unary operator x.0) ∷ x.1)

-- replaces a text by its length
abbrev pub text_length : Values → Result Values ParmFault
text_length [] = Err Underflow
text_length (Number n ∷ rest) = Err WrongKind
text_length (Text bytes ∷ rest) = fitting (pos (length bytes)) >>= λ n. Ok (Number n ∷ rest)

-- the byte that a number is written as
abbrev pub byte_of : ℤ → Result ℕ ParmFault
byte_of (pos n) = cond (nat_eq n 0) (Ok 128) (cond (nat_le n 255) (Ok n) (Err BadChar))
byte_of (negsuc n) = Err BadChar
