-- The file of an entry, by its place among the entries of several files put together.
use Rattle.std.specs.Prelude.{ℕ, ◌+◌, ◌-◌, nat_lt, List, [], ◌∷◌, Option, Some, None, if◌then◌else◌}
use Rattle.ti_sources.specs.declared.spots.Spot.{Spot}

abbrev pub spot_at : ℕ → ℕ → Spot
spot_at file place = record { file = file; place = place }

-- by the number of entries of each file, for files from this number on
abbrev pub spot_from : ℕ → List ℕ → ℕ → Option Spot
spot_from file [] place = None
spot_from file (count ∷ counts) place =
    if nat_lt place count then Some (spot_at file place) else spot_from (file + 1) counts (place - count)

unfoldable pub spot_of : List ℕ → ℕ → Option Spot
spot_of counts place = spot_from 0 counts place
