-- None of the kinds visited so far has the sequence.
use Rattle.std.proofs.Common.{◌≡◌, ◌+◌, drop}
use Rattle.vt_states.specs.Kinds.{place_in}
use Rattle.vt_states.proofs.counts.place_in.Given as goal

abbrev pub invariant-loop-place : goal.invariant-loop-place
invariant-loop-place l = l.place + place_in l.sequence (drop l.place l.kinds) ≡ place_in l.sequence l.kinds
