use Rattle.std.proofs.Common.{map, take}
use Rattle.std.specs.Prelude.{string_bytes}
use Rattle.ti_reports.specs.Suggestions.{AreFields}
use Rattle.ti_reports.proofs.suggestions.fields_of.Given as goal

-- the capabilities so far have their fields
abbrev pub invariant-loop-cap : goal.invariant-loop-cap
invariant-loop-cap l = AreFields l.entry l.mended (take l.cap-index l.caps) (map string_bytes l.fields.items)
