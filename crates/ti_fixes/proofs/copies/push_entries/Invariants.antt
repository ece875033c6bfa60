use Rattle.std.proofs.Common.{◌≡◌, ◌++◌, take}
use Rattle.ti_fixes.proofs.copies.push_entries.Given as goal

abbrev pub invariant-loop-raw : goal.invariant-loop-raw
invariant-loop-raw l = l.copy.items ≡ l.initial.copy.items ++ take l.raw-index l.raws
