use Rattle.std.proofs.Common.{◌≡◌, take}
use Rattle.ti_fixes.specs.Changes as spec
use Rattle.ti_fixes.proofs.differences.changed_by.Given as goal

abbrev pub invariant-loop-change : goal.invariant-loop-change
invariant-loop-change l = l.after.items ≡ spec.changed_by (take l.change-index l.changes) l.place l.fields
