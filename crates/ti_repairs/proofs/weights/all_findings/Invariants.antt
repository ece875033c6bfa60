use Rattle.std.proofs.Common.{take}
use Rattle.std.specs.List.{AllZip}
use Rattle.ti_repairs.specs.Weights.{IsFinding}
use Rattle.ti_repairs.proofs.weights.all_findings.Given as goal

-- the faults so far
abbrev pub invariant-loop-no : goal.invariant-loop-no
invariant-loop-no l = AllZip (IsFinding l.terms l.of.entry.now l.of.kind l.of.alone) (take l.no-index l.nos) l.findings.items
