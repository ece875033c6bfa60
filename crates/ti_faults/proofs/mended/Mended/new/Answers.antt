use Rattle.std.proofs.Common.{sym, ◌∙◌}
use Rattle.ti_faults.specs.Mended.{Suits}
use Rattle.ti_faults.proofs.mended.Mended.new.Goals as goal

-- the first candidate for `sgr0` suits
pub returns-else-needs_other : goal.returns-else-needs_other
returns-else-needs_other c = Suits c.in_ok-first.ensures (sym c.needs_other.ensures ∙ c.if-needs_other.false)
