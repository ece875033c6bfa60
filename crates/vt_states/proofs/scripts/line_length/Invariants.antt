-- None of the bytes visited so far is an LF.
use Rattle.std.proofs.Common.{◌≡◌, ◌+◌, drop}
use Rattle.vt_states.specs.Recordings.{line_length}
use Rattle.vt_states.proofs.scripts.line_length.Given as goal

abbrev pub invariant-loop-at : goal.invariant-loop-at
invariant-loop-at l = l.at + line_length (drop l.at l.bytes) ≡ line_length l.bytes
