use Rattle.std.proofs.Common.{◌≡◌, map, take, flat_map}
use Rattle.ti_verdicts.specs.FaultLists.{indented}
use Rattle.ti_verdicts.proofs.indents.indented.Given as goal

-- the lines before this one are there
abbrev pub invariant-loop-line : goal.invariant-loop-line
invariant-loop-line l = l.text.items ≡ flat_map indented (map (λ line. line.items) (take l.line-index l.lines))
