use Rattle.std.proofs.Common.{take}
use Rattle.ti_advice.specs.Keys.{IsKeyAdvice}
use Rattle.ti_advice.specs.Parts.{HasParts, IsAtMost}
use Rattle.ti_advice.proofs.keys.group_advice.Given as goal

-- the keys before this one have their advice
abbrev pub invariant-loop-key : goal.invariant-loop-key
invariant-loop-key l = HasParts (IsAtMost (IsKeyAdvice l.entry l.group)) (take l.key-index l.group) l.list.items
