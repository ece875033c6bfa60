-- The line of an object.
use Rattle.std.specs.Prelude.{◌≡◌, ℕ, List, [], ◌∷◌, ◌++◌}
use Rattle.ti_printers.specs.Escapes.{printable_json}

-- some JSON in bytes of 32 to 126, and LF
abbrev pub IsObjectLine : List ℕ → Type 0
IsObjectLine line = (json : List ℕ) × (line ≡ printable_json json ++ 10 ∷ [])
