-- The numbers of a script: decimal digits, with leading zeros or without, and perhaps a minus sign.
use Rattle.std.specs.Prelude.{ℕ, zero, suc, ℤ, pos, negsuc, ◌+◌, ◌*◌, ◌-◌, ◌==◌, ◌&&◌, Bool, true, false, List, [], ◌∷◌}
use Rattle.std.specs.Prelude.{Option, Some, None, if◌then◌else◌, nat_le}
use Rattle.cur_scripts.specs.Cuts.{◌>>=◌}

abbrev pub digit_in : ℕ → Option ℕ
digit_in b = if nat_le 48 b && nat_le b 57 then Some (b - 48) else None

-- the number of these digits after those of the number `before`
abbrev pub spelled_after : ℕ → List ℕ → Option ℕ
spelled_after before [] = Some before
spelled_after before (b ∷ rest) = digit_in b >>= λ digit. spelled_after (before * 10 + digit) rest

-- at least one digit
abbrev pub spelled : List ℕ → Option ℕ
spelled [] = None
spelled (b ∷ rest) = spelled_after 0 (b ∷ rest)

abbrev pub at_most : ℕ → ℕ → Option ℕ
at_most limit n = if nat_le n limit then Some n else None

-- a number without a sign, up to a limit
abbrev pub natural : ℕ → List ℕ → Option ℕ
natural limit word = spelled word >>= λ n. at_most limit n

abbrev pub negated : ℕ → ℤ
negated zero = pos 0
negated (suc n) = negsuc n

-- a number from -2147483648 to 2147483647
abbrev pub number_in : List ℕ → Option ℤ
number_in [] = None
number_in (b ∷ rest) =
    if b == 45 then (natural 2147483648 rest >>= λ n. Some (negated n))
    else (natural 2147483647 (b ∷ rest) >>= λ n. Some (pos n))

-- the number of a window, which has no sign
abbrev pub window_in : List ℕ → Option ℕ
window_in word = natural 2147483647 word

abbrev pub as_flag : ℤ → Option Bool
as_flag (pos n) = if n == 0 then Some false else (if n == 1 then Some true else None)
as_flag (negsuc n) = None

abbrev pub as_zero : ℤ → Option (Unit {0})
as_zero (pos n) = if n == 0 then Some tt else None
as_zero (negsuc n) = None

-- 0 or 1
abbrev pub flag_in : List ℕ → Option Bool
flag_in word = number_in word >>= λ n. as_flag n

abbrev pub zero_in : List ℕ → Option (Unit {0})
zero_in word = number_in word >>= λ n. as_zero n

-- a number, or 2147483649 for every greater one than 2147483648
abbrev pub capped : ℕ → ℕ
capped n = if nat_le n 2147483648 then n else 2147483649
