-- The last line isn't behind any of the bytes visited so far.
use Rattle.std.proofs.Common.{◌≡◌, ◌+◌, drop}
use Rattle.vt_states.specs.Recordings.{unended_length}
use Rattle.vt_states.proofs.scripts.unended_length.Given as goal

abbrev pub invariant-loop-at : goal.invariant-loop-at
invariant-loop-at l = l.at + unended_length (drop l.at l.bytes) ≡ unended_length l.bytes
