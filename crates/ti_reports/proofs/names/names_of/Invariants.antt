use Rattle.std.proofs.Common.{length}
use Rattle.ti_reports.specs.Names.{AreBefore}
use Rattle.ti_reports.proofs.names.names_of.Given as goal

-- the names before the rest are written
abbrev pub invariant-loop-own : goal.invariant-loop-own
invariant-loop-own l = AreBefore l.names l.rest l.all.items

abbrev pub decreases-loop-own : goal.decreases-loop-own
decreases-loop-own l = length l.rest
