use Rattle.std.proofs.Common.{map, take}
use Rattle.ti_verdicts.specs.FaultLists.{HasFaultLines}
use Rattle.ti_verdicts.specs.Locations.{place_if}
use Rattle.ti_sources.specs.LinedFiles.{file_text}
use Rattle.ti_verdicts.specs.Parts.{HasParts}
use Rattle.ti_verdicts.proofs.fault_lists.fault_lines.Given as goal

-- the faults before this one have their lines
abbrev pub invariant-loop-no : goal.invariant-loop-no
invariant-loop-no l = HasParts (HasFaultLines (map file_text l.found.originals.now) l.found.entry.now (place_if l.found.stands) l.mended l.nos) (take l.no-index l.nos) l.lines.items
