use Rattle.std.proofs.Common.{◌≡◌, ◌++◌, take}
use Rattle.ti_fixes.proofs.copies.push_copied.Given as goal

abbrev pub invariant-loop-field : goal.invariant-loop-field
invariant-loop-field l = l.copy.items ≡ l.initial.copy.items ++ take l.field-index l.fields
