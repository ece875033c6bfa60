use Rattle.std.proofs.Common.{◌≡◌, drop}
use Rattle.ti_resolve.specs.Origins.{first_of, origin_in}
use Rattle.ti_resolve.proofs.origins.first_origin.Given as goal

abbrev pub invariant-loop-place : goal.invariant-loop-place
invariant-loop-place l = first_of (origin_in l.raws l.cap) (drop l.place-index l.places) ≡ first_of (origin_in l.raws l.cap) l.places
