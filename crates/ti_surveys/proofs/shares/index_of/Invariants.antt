use Rattle.std.proofs.Common.{map, take}
use Rattle.ti_surveys.specs.Shares as spec
use Rattle.ti_verdicts.specs.Locations.{placed_in}
use Rattle.ti_surveys.proofs.shares.index_of.Given as goal

-- the index has the faults before this one
abbrev pub invariant-loop-number : goal.invariant-loop-number
invariant-loop-number l = spec.HasShares (map placed_in (take l.number l.faults)) l.found
