use Rattle.std.proofs.Common.{◌≡◌, length}
use Rattle.ti_resolve.specs.Uses.{is_name_in}
use Rattle.ti_sources.proofs.names.is_name_in.Given as goal

-- the name is among the rest exactly if it is among all
abbrev pub invariant-loop-own : goal.invariant-loop-own
invariant-loop-own l = is_name_in l.rest l.name ≡ is_name_in l.names l.name

abbrev pub decreases-loop-own : goal.decreases-loop-own
decreases-loop-own l = length l.rest
