use Rattle.std.proofs.Common.{◌≡◌, drop}
use Rattle.ti_sources.specs.Spots.{spot_from}
use Rattle.ti_sources.proofs.spots.spot_of.Given as goal

-- the files behind those that were passed decide
abbrev pub invariant-loop-file : goal.invariant-loop-file
invariant-loop-file l = spot_from l.file (drop l.file l.counts) l.rest ≡ spot_from 0 l.counts l.place
