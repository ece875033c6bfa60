-- Delays in the bytes sent (terminfo(5), "Delays and Padding").
use Rattle.std.specs.Prelude.{◌≡◌, ℕ, zero, suc, ◌&&◌, ◌||◌, ◌==◌, Bool, cond, List, [], ◌∷◌, length, Option, Some}
use Rattle.std.specs.Prelude.{None}
use Rattle.ti_parm.specs.Codes.{behind_digits, is_digit}

abbrev pub is_mark : ℕ → Bool
is_mark b = b == 42 || b == 47

-- the rest after a `*` or a `/`
abbrev pub behind_mark : List ℕ → Option (List ℕ)
behind_mark [] = None
behind_mark (b ∷ rest) = cond (is_mark b) (Some rest) None

-- the rest after any number of `*` and `/`, then `>`, which follow the digits
abbrev pub behind_marks : List ℕ → Option (List ℕ)
behind_marks [] = None
behind_marks (b ∷ rest) = cond (is_mark b) (behind_marks rest) (cond (b == 62) (Some rest) None)

-- after a `.`: one digit
abbrev pub behind_tenth : List ℕ → Option (List ℕ)
behind_tenth [] = None
behind_tenth (b ∷ rest) = cond (is_digit b) (behind_marks rest) None

abbrev pub behind_number : List ℕ → Option (List ℕ)
behind_number [] = None
behind_number (b ∷ rest) = cond (b == 46) (behind_tenth rest) (behind_marks (b ∷ rest))

-- after `$<`: one digit or more
abbrev pub behind_opening : List ℕ → Option (List ℕ)
behind_opening [] = None
behind_opening (b ∷ rest) = cond (is_digit b) (behind_number (behind_digits rest)) None

-- the rest after the delay that a text begins with, if it begins with one: `$<`, one digit or more, perhaps `.` and
-- one digit, any number of `*` and `/`, and `>`
abbrev pub behind_delay : List ℕ → Option (List ℕ)
behind_delay [] = None
behind_delay (b ∷ []) = None
behind_delay (b ∷ c ∷ rest) = cond (b == 36 && c == 60) (behind_opening rest) None

abbrev pub strip_first : (List ℕ → List ℕ) → ℕ → List ℕ → Option (List ℕ) → List ℕ
strip_first further b rest None = b ∷ further rest
strip_first further b rest (Some behind) = further behind

-- the text has no `$<`
abbrev pub HasNoOpening : List ℕ → Type 0
HasNoOpening [] = Unit {0}
HasNoOpening (b ∷ []) = Unit {0}
HasNoOpening (b ∷ c ∷ rest) = ((b ≡ 36) → (c ≡ 60) → ⊥) × HasNoOpening (c ∷ rest)

-- a text of at most n bytes without its delays, removed from left to right
unfoldable pub strip_in : ℕ → List ℕ → List ℕ
strip_in n [] = []
strip_in zero (b ∷ rest) = []
strip_in (suc n) (b ∷ rest) = strip_first (strip_in n) b rest (behind_delay (b ∷ rest))

-- a text without its delays
unfoldable pub strip : List ℕ → List ℕ
strip text = strip_in (length text) text
