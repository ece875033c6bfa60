use Rattle.std.proofs.Common.{map, take}
use Rattle.ti_verdicts.specs.Parts.{HasParts}
use Rattle.ti_surveys.specs.Answers.{IsPlacedMore}
use Rattle.ti_verdicts.specs.Locations.{place_if, placed_in}
use Rattle.ti_sources.specs.LinedFiles.{file_text}
use Rattle.ti_surveys.proofs.lines.places_of.Given as goal

-- the faults before this one are at their places
abbrev pub invariant-loop-no : goal.invariant-loop-no
invariant-loop-no g l = HasParts (IsPlacedMore (map file_text l.asked.originals.now) (place_if l.found.stands.now) l.found.name.now) (take l.no-index l.nos) (map placed_in l.places.items)
