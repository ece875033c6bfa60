-- The numbers of a control sequence (ECMA-48 5.4.1 and 5.4.2, parameter representation).
use Rattle.std.specs.Prelude.{ℕ, ◌+◌, ◌-◌, ◌*◌, ◌==◌, ◌&&◌, ◌||◌, nat_le, min, Bool, List, [], ◌∷◌, map, if◌then◌else◌}
use Rattle.std.specs.Prelude.{Option, None, Some}

-- a byte prepended to the first piece
abbrev pub onto_first : ℕ → List (List ℕ) → List (List ℕ)
onto_first b [] = (b ∷ []) ∷ []
onto_first b (piece ∷ pieces) = (b ∷ piece) ∷ pieces

-- the pieces between the semicolons (ECMA-48 5.4.2, parameter sub-strings)
abbrev pub pieces : List ℕ → List (List ℕ)
pieces [] = [] ∷ []
pieces (b ∷ bytes) = if b == 59 then [] ∷ pieces bytes else onto_first b (pieces bytes)

-- the number n continued by decimal digits
abbrev pub decimal : ℕ → List ℕ → ℕ
decimal n [] = n
decimal n (digit ∷ digits) = decimal (10 * n + (digit - 48)) digits

-- an empty piece means the default, and a number above 65535 counts as 65535
abbrev pub number_of : List ℕ → Option ℕ
number_of [] = None
number_of (digit ∷ digits) = Some (min 65535 (decimal 0 (digit ∷ digits)))

abbrev pub numbers : List ℕ → List (Option ℕ)
numbers bytes = map number_of (pieces bytes)

-- whether a byte is a digit or a semicolon
abbrev pub is_numeral : ℕ → Bool
is_numeral b = nat_le 48 b && (nat_le b 57 || (b == 59))
