use Rattle.std.proofs.Common.{◌≡◌, ◌++◌, drop, map, take}
use Rattle.ti_surveys.specs.Places.{lines_behind, places_text}
use Rattle.ti_verdicts.specs.Locations.{placed_in}
use Rattle.ti_surveys.proofs.places.places_lines.Given as goal

-- the lines so far, and then those of the faults that are left, are all
abbrev pub invariant-loop-at : goal.invariant-loop-at
invariant-loop-at l = l.lines.items ++ lines_behind (map placed_in (take l.at l.faults)) (map placed_in (drop l.at l.faults)) ≡ places_text (map placed_in l.faults)
