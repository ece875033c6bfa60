use Rattle.std.proofs.Common.{◌≡◌, take}
use Rattle.ti_fixes.specs.Files as spec
use Rattle.ti_fixes.proofs.files.later_changes.Given as goal

abbrev pub invariant-loop-change : goal.invariant-loop-change
invariant-loop-change l = l.later.items ≡ spec.later_changes l.count (take l.change-index l.changes)
