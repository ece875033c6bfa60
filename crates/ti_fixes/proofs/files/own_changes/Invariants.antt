use Rattle.std.proofs.Common.{◌≡◌, take}
use Rattle.ti_fixes.specs.Files as spec
use Rattle.ti_fixes.proofs.files.own_changes.Given as goal

abbrev pub invariant-loop-change : goal.invariant-loop-change
invariant-loop-change l = l.own.items ≡ spec.own_changes l.count (take l.change-index l.changes)
