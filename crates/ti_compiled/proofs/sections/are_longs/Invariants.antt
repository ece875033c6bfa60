use Rattle.std.proofs.Common.{◌≡◌, length}
use Rattle.std.specs.List.{list_all}
use Rattle.ti_compiled.specs.Layout.{longs, is_number}
use Rattle.ti_compiled.proofs.sections.are_longs.Given as goal

abbrev pub invariant-loop-rest : goal.invariant-loop-rest
invariant-loop-rest l = list_all (is_number 2147483648) (longs l.rest) ≡ list_all (is_number 2147483648) (longs l.bytes)

abbrev pub decreases-loop-rest : goal.decreases-loop-rest
decreases-loop-rest l = length l.rest
