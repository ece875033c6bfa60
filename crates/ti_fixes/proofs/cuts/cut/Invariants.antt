use Rattle.std.proofs.Common.{◌≡◌, ◌++◌}
use Rattle.ti_fixes.specs.Cuts.{whole}
use Rattle.ti_fixes.proofs.cuts.cut.Given as goal

-- the parts so far and the rest are the text
abbrev pub invariant-loop-raw : goal.invariant-loop-raw
invariant-loop-raw l = whole l.parts.items ++ l.rest ≡ l.text
