-- A code has at least one byte, so the rest is shorter than the text.
use Rattle.std.proofs.Common.{ℕ, suc, ◌≤◌, Bool, true, false, cond, List, [], ◌∷◌, length, Result, Option, Some, None, IfOk, nat_le, ◌==◌, ◌&&◌, arith}
use Rattle.ti_parm.specs.declared.code.Code.{Code}
use Rattle.ti_parm.specs.declared.fault.ParmFault.{ParmFault}
use Rattle.ti_parm.specs.Codes.{flags_on, no_flags, precision_at, behind_digits, behind_flags, behind_precision, character_code, code_at, conversion, conversion_code, finished, format_code, is_flag, read_conversion, read_format, is_digit, number_code, number_on, parameter_code, percent_code, read_number, read_short, read_variable, short_code, variable, variable_code}
use Rattle.ti_parm.specs.declared.code.Action.{Action}
use Rattle.ti_parm.specs.declared.code.Action.TheVariants.{Set, Get}
use Rattle.ti_parm.specs.declared.formats.Conversion.{Conversion}
use Rattle.ti_parm.specs.declared.formats.Flags.{Flags}
use Rattle.ti_parm.specs.declared.formats.Format.{Format}
use Rattle.ti_parm.specs.declared.code.Variable.{Variable}

-- a property of both branches holds of the choice
pub both : {A : Type 0} (P : A → Type 0) (b : Bool) (x y : Result A ParmFault) → IfOk x P → IfOk y P → IfOk (cond b x y) P
both P true x y p q = p
both P false x y p q = q

-- the rest after a code is at most n bytes long
abbrev pub IsWithin : ℕ → Code × List ℕ → Type 0
IsWithin n x = length x.1 ≤ n

either-within : (d : Bool) (xs ys : List ℕ) (n : ℕ) → length xs ≤ n → length ys ≤ n → length (cond d xs ys) ≤ n
either-within true xs ys n p q = p
either-within false xs ys n p q = q

pub behind_digits-within : (text : List ℕ) → length (behind_digits text) ≤ length text
behind_digits-within [] = omega arith
behind_digits-within (b ∷ rest) = either-within (is_digit b) (behind_digits rest) (b ∷ rest) _ (omega (arith, behind_digits-within rest)) (omega arith)

behind_flags-within : (text : List ℕ) → length (behind_flags text) ≤ length text
behind_flags-within [] = omega arith
behind_flags-within (b ∷ rest) = either-within (is_flag b) (behind_flags rest) (b ∷ rest) _ (omega (arith, behind_flags-within rest)) (omega arith)

behind_precision-within : (text : List ℕ) → length (behind_precision text) ≤ length text
behind_precision-within [] = omega arith
behind_precision-within (b ∷ rest) = either-within (b == 46) (behind_digits rest) (b ∷ rest) _ (omega (arith, behind_digits-within rest)) (omega arith)

read_format-within : (o : Option Format) (rest : List ℕ) (n : ℕ) → length rest ≤ n → IfOk (read_format o rest) (IsWithin n)
read_format-within None rest n h = tt
read_format-within (Some format) rest n h = h

read_conversion-within : (f : Flags) (w : ℕ) (p : Option ℕ) (k : Option Conversion) (rest : List ℕ) (n : ℕ) → length rest ≤ n → IfOk (read_conversion f w p k rest) (IsWithin n)
read_conversion-within f w p None rest n h = tt
read_conversion-within f w p (Some k) rest n h = read_format-within (finished f w p k) rest n h

-- a format takes at least one byte
conversion-within : (f : Flags) (w : ℕ) (p : Option ℕ) (text : List ℕ) (n : ℕ) → length text ≤ suc n → IfOk (conversion_code f w p text) (IsWithin n)
conversion-within f w p [] n h = tt
conversion-within f w p (b ∷ rest) n h = read_conversion-within f w p (conversion b) rest n (omega arith)

format-within : (text : List ℕ) (n : ℕ) → length text ≤ suc n → IfOk (format_code text) (IsWithin n)
format-within text n h =
    conversion-within (flags_on no_flags text) (number_on 0 (behind_flags text)) (precision_at (behind_digits (behind_flags text))) (behind_precision (behind_digits (behind_flags text))) n
    (omega (arith, behind_precision-within (behind_digits (behind_flags text)), behind_digits-within (behind_flags text), behind_flags-within text))

short-within : (o : Option Code) (b : ℕ) (rest : List ℕ) (n : ℕ) → length rest ≤ n → IfOk (read_short o b rest) (IsWithin n)
short-within (Some code) b rest n h = h
short-within None b rest n h = format-within (b ∷ rest) n (omega arith)

parameter-within : (text : List ℕ) (n : ℕ) → length text ≤ n → IfOk (parameter_code text) (IsWithin n)
parameter-within [] n h = tt
parameter-within (b ∷ rest) n h = both (IsWithin n) (nat_le 49 b && nat_le b 57) _ _ (omega arith) tt

read_variable-within : (f : Variable → Action) (v : Option Variable) (rest : List ℕ) (n : ℕ) → length rest ≤ n → IfOk (read_variable f v rest) (IsWithin n)
read_variable-within f (Some v) rest n h = h
read_variable-within f None rest n h = tt

variable-within : (f : Variable → Action) (text : List ℕ) (n : ℕ) → length text ≤ n → IfOk (variable_code f text) (IsWithin n)
variable-within f [] n h = tt
variable-within f (b ∷ rest) n h = read_variable-within f (variable b) rest n (omega arith)

character-within : (text : List ℕ) (n : ℕ) → length text ≤ n → IfOk (character_code text) (IsWithin n)
character-within [] n h = tt
character-within (b ∷ []) n h = tt
character-within (b ∷ c ∷ rest) n h = both (IsWithin n) (c == 39) _ _ (omega arith) tt

read_number-within : (v : ℕ) (text : List ℕ) (n : ℕ) → length text ≤ n → IfOk (read_number v text) (IsWithin n)
read_number-within v [] n h = tt
read_number-within v (b ∷ rest) n h = both (IsWithin n) (b == 125 && nat_le v 2147483647) _ _ (omega arith) tt

number-within : (text : List ℕ) (n : ℕ) → length text ≤ n → IfOk (number_code text) (IsWithin n)
number-within [] n h = tt
number-within (b ∷ rest) n h = both (IsWithin n) (is_digit b) _ _ (read_number-within (number_on 0 (b ∷ rest)) (behind_digits (b ∷ rest)) n (omega (arith, behind_digits-within (b ∷ rest)))) tt

percent-within : (text : List ℕ) (n : ℕ) → length text ≤ n → IfOk (percent_code text) (IsWithin n)
percent-within [] n h = tt
percent-within (b ∷ rest) n h =
    both (IsWithin n) (b == 112) _ _ (parameter-within rest n (omega arith))
    (both (IsWithin n) (b == 80) _ _ (variable-within Set rest n (omega arith))
    (both (IsWithin n) (b == 103) _ _ (variable-within Get rest n (omega arith))
    (both (IsWithin n) (b == 39) _ _ (character-within rest n (omega arith))
    (both (IsWithin n) (b == 123) _ _ (number-within rest n (omega arith))
    (both (IsWithin n) (b == 58) _ _ (format-within rest n (omega arith))
    (short-within (short_code b) b rest n (omega arith)))))))

pub code_at-shorter : (b : ℕ) (rest : List ℕ) → IfOk (code_at (b ∷ rest)) (IsWithin (length rest))
unfolding code_at
code_at-shorter b rest = both (IsWithin (length rest)) (b == 37) _ _ (percent-within rest _ (omega arith)) (omega arith)
