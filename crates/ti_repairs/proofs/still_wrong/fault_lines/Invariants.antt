use Rattle.std.proofs.Common.{◌≡◌, take}
use Rattle.std.specs.List.{flat_map}
use Rattle.ti_repairs.specs.Notes.{wrong_line}
use Rattle.ti_verdicts.specs.Refusals.{no_text}
use Rattle.ti_repairs.proofs.still_wrong.fault_lines.Given as goal

abbrev pub invariant-loop-no : goal.invariant-loop-no
invariant-loop-no l = l.lines.items ≡ flat_map (λ no. wrong_line l.label (no_text no)) (take l.no-index l.nos)
