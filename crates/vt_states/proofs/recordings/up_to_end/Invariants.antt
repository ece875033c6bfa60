-- The bytes visited so far don't end the string.
use Rattle.std.proofs.Common.{◌≡◌, ◌+◌, drop}
use Rattle.vt_states.specs.Recordings.{up_to_end}
use Rattle.vt_states.proofs.recordings.up_to_end.Given as goal

abbrev pub invariant-loop-count : goal.invariant-loop-count
invariant-loop-count l = l.count + up_to_end l.osc (drop l.count l.bytes) ≡ up_to_end l.osc l.bytes
