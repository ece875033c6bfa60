use Rattle.std.proofs.Common.{◌≡◌, take}
use Rattle.ti_without.specs.Less.{caps_of, less}
use Rattle.ti_without.proofs.left_out.without_all.Given as goal

abbrev pub invariant-loop-one : goal.invariant-loop-one
invariant-loop-one l = l.smaller ≡ less l.entry (caps_of (take l.one-index l.left))
