use Rattle.std.proofs.Common.{◌≡◌, drop}
use Rattle.ti_surveys.specs.Lines.{first_unread}
use Rattle.ti_surveys.proofs.files.first_unread.Given as goal

abbrev pub invariant-loop-place : goal.invariant-loop-place
invariant-loop-place l = first_unread l.faults (drop l.place-index l.places) ≡ first_unread l.faults l.places
