-- The front of a parameter string, up to a place between two of its codes, as a string of its own. A conditional that
-- is open at the place is closed behind it by codes that write nothing.
use Rattle.std.specs.Prelude.{ℕ, Bool, true, false, List, ◌++◌, codes, take}
use Rattle.std.specs.List.{flat_map}

-- The codes that close a conditional: in its condition, which may have no value yet, a value and `%t` come first.
abbrev pub closing : Bool → List ℕ
closing true = codes "%{0}%t%;"
closing false = codes "%;"

-- the front up to a place, with the conditionals closed that are open there: for each, the innermost first, whether the
-- place is in its condition
unfoldable pub closed_front : List ℕ → ℕ → List Bool → List ℕ
closed_front string place nest = take place string ++ flat_map closing nest
