use Rattle.std.proofs.Common.{◌≡◌, take, flat_map}
use Rattle.ti_surveys.specs.Answers.{fault_line}
use Rattle.ti_surveys.proofs.lines.fault_lines.Given as goal

-- the faults before this one have their lines
abbrev pub invariant-loop-no : goal.invariant-loop-no
invariant-loop-no l = l.lines.items ≡ flat_map (fault_line l.name) (take l.no-index l.nos)
