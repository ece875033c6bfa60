use Rattle.std.proofs.Common.{take}
use Rattle.ti_faults.specs.Mended.{MendsAll}
use Rattle.ti_faults.proofs.mended.mend_all.Given as goal

abbrev pub invariant-loop-no : goal.invariant-loop-no
invariant-loop-no l = MendsAll l.own l.choice (take l.no-index l.nos) l.own l.entry
