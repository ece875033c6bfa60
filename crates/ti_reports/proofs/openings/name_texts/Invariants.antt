use Rattle.std.proofs.Common.{take}
use Rattle.ti_reports.specs.Openings.{IsNameText}
use Rattle.ti_verdicts.specs.Parts.{HasParts}
use Rattle.ti_reports.proofs.openings.name_texts.Given as goal

-- the names before this one have their texts
abbrev pub invariant-loop-name : goal.invariant-loop-name
invariant-loop-name l = HasParts IsNameText (take l.name-index l.names) l.texts.items
