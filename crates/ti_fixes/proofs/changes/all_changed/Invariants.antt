use Rattle.std.proofs.Common.{take}
use Rattle.ti_fixes.specs.Changes.{IsWrittenBy}
use Rattle.ti_fixes.specs.Cuts.{whole}
use Rattle.ti_fixes.proofs.changes.all_changed.Given as goal

-- the changes before this one are written
abbrev pub invariant-loop-change : goal.invariant-loop-change
invariant-loop-change l = IsWrittenBy (take l.change-index l.changes) l.text (whole l.parts.items)
