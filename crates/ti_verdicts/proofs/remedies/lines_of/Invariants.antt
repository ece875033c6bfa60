use Rattle.std.proofs.Common.{take}
use Rattle.ti_verdicts.specs.Parts.{HasParts}
use Rattle.ti_verdicts.specs.Remedies.{HasRemedy}
use Rattle.ti_verdicts.proofs.remedies.lines_of.Given as goal

-- the capabilities before this one have their lines
abbrev pub invariant-loop-cap : goal.invariant-loop-cap
invariant-loop-cap l = HasParts (HasRemedy l.faulty.entry.now l.faulty.mended.now l.faulty.nos.now) (take l.cap-index l.caps) l.lines.items
