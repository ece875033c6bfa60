-- Rectangles that begin at the corner.
use Rattle.std.specs.Prelude.{ℕ}
use Rattle.grids.specs.declared.areas.Area.{Area}

abbrev pub whole_area : ℕ → ℕ → Area
whole_area rows cols = record { top = 0; left = 0; rows = rows; cols = cols }
