use Rattle.std.proofs.Common.{◌≡◌, take}
use Rattle.ti_without.specs.Less.{but}
use Rattle.ti_without.proofs.left_out.but.Given as goal

abbrev pub invariant-loop-one : goal.invariant-loop-one
invariant-loop-one l = l.fewer.items ≡ but l.fn.cap (take l.one-index l.left)
