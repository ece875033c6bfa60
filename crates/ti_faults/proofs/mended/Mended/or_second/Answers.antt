use Rattle.std.proofs.Common.{sym, ◌∙◌}
use Rattle.ti_faults.specs.Mended.{Neither, Second}
use Rattle.ti_faults.proofs.mended.Mended.or_second.Goals as goal

-- the second one does no harm
pub returns-then-adds_none : goal.returns-then-adds_none
returns-then-adds_none c = Second c.args.self c.requires.best c.requires.unsuited c.in_ok-second.ensures (sym c.adds_none.ensures ∙ c.if-adds_none.true)

-- the second one does harm too
pub returns-else-adds_none : goal.returns-else-adds_none
returns-else-adds_none c = Neither c.requires.best c.requires.unsuited c.in_ok-second.second c.in_ok-second.ensures (sym c.adds_none.ensures ∙ c.if-adds_none.false)
