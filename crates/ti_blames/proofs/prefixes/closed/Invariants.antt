use Rattle.std.proofs.Common.{◌≡◌, ◌++◌, take, flat_map}
use Rattle.ti_blames.specs.Prefixes.{closing}
use Rattle.ti_blames.proofs.prefixes.closed.Given as goal

-- the conditionals before this one are closed
abbrev pub invariant-loop-in_condition : goal.invariant-loop-in_condition
invariant-loop-in_condition l = l.text.items ≡ l.initial.text.items ++ flat_map closing (take l.in_condition-index l.nest)
