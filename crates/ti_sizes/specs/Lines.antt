-- Lines whose effects are one for all sizes.
use Rattle.std.specs.Prelude.{ℕ, ◌≡◌, List, Option, Some}
use Rattle.vt_term.specs.Size.{max_rows, max_cols}
use Rattle.ti_rows.specs.declared.rows.Row.{Row}
use Rattle.ti_rows.specs.Lists.{IsInRange, rank}
use Rattle.ti_rows.specs.Names.{order}
use Rattle.ti_sizes.specs.Steady.{IsSteadyText}

-- the row's line, if there is one, has such bytes
abbrev pub IsSteadyLine : Row → Option (List ℕ) → Type 0
IsSteadyLine row line = (bytes : List ℕ) → line ≡ Some bytes → IsSteadyText row bytes

-- so has each line of the capability at a place, at the greatest size
abbrev pub CapIsSteady : (Row → Option (List ℕ)) → ℕ → Type 0
CapIsSteady line_of n = (row : Row) → order row ≡ n → IsInRange max_rows max_cols row → IsSteadyLine row (line_of row)

-- and each line of all
abbrev pub AreSteady : (Row → Option (List ℕ)) → Type 0
AreSteady line_of = (row : Row) → IsInRange max_rows max_cols row → IsSteadyLine row (line_of row)

-- (Serves the code alone.) The line at the place `k` among those of its capability.
abbrev pub IsSteadyAt : (Row → Option (List ℕ)) → ℕ → ℕ → Type 0
IsSteadyAt line_of n k =
    (row : Row) → order row ≡ n → IsInRange max_rows max_cols row → rank max_rows max_cols row ≡ k
    → IsSteadyLine row (line_of row)
