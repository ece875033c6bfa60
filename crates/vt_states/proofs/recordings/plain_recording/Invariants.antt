-- The text so far, and the remaining parts.
use Rattle.std.proofs.Common.{◌-◌, length}
use Rattle.vt_states.proofs.Shown.{ShownSoFar}
use Rattle.vt_states.proofs.recordings.plain_recording.Given as goal

abbrev pub invariant-loop-at : goal.invariant-loop-at
invariant-loop-at l = ShownSoFar l.bytes l.at l.recording.text.items l.recording.dropped l.recording.replaced

abbrev pub decreases-loop-at : goal.decreases-loop-at
decreases-loop-at l = length l.bytes - l.at
