use Rattle.std.proofs.Common.{take}
use Rattle.ti_advice.specs.Deeds.{IsDutyAdvice}
use Rattle.ti_advice.specs.Parts.{HasParts, IsAtMost}
use Rattle.ti_advice.proofs.deeds.deeds_of.Given as goal

-- the duties before this one have their advice
abbrev pub invariant-loop-duty : goal.invariant-loop-duty
invariant-loop-duty l = HasParts (IsAtMost (IsDutyAdvice l.entry)) (take l.duty-index l.duties) l.list.items
