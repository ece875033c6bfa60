-- (Serves the code alone.) Strings that are kept one after another.
use Rattle.std.specs.Prelude.{ℕ, ◌-◌, ◌≤◌, List, take, drop}

-- the bytes from one place up to another
abbrev pub piece : List ℕ → ℕ → ℕ → List ℕ
piece bytes from to = take (to - from) (drop from bytes)

-- two places within this many bytes, in order
abbrev pub IsPart : ℕ → ℕ → ℕ → Type 0
IsPart count from to = (from ≤ to) × (to ≤ count)
