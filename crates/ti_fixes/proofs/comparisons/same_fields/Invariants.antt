use Rattle.std.proofs.Common.{◌≡◌, drop}
use Rattle.ti_fixes.proofs.comparisons.same_fields.Given as goal

abbrev pub invariant-loop-field : goal.invariant-loop-field
invariant-loop-field l = drop l.field-index l.old ≡ l.rest → l.old ≡ l.new
