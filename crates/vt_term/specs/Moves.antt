-- The string that moves the cursor to a place.
use Rattle.std.specs.Prelude.{ℕ, ◌+◌, List, [], ◌∷◌, ◌++◌}
use Rattle.std.specs.Fmt.{decimal}

-- ESC [ row ; column H, where both count from 1 (ECMA-48 8.3.21, CUP)
abbrev pub cursor_to : ℕ → ℕ → List ℕ
cursor_to row col = 27 ∷ 91 ∷ (decimal (row + 1) ++ 59 ∷ (decimal (col + 1) ++ 72 ∷ []))
