use Rattle.std.proofs.Common.{◌≡◌, take}
use Rattle.ti_fixes.specs.Cuts.{whole}
use Rattle.ti_fixes.proofs.cuts.joined.Given as goal

abbrev pub invariant-loop-part : goal.invariant-loop-part
invariant-loop-part l = l.text.items ≡ whole (take l.part-index l.parts)
