use Rattle.ti_steps.specs.Parts.{AreParts}
use Rattle.ti_repairs.specs.Notes.{AreWrongLines}
use Rattle.ti_repairs.proofs.still_wrong.all_lines.Given as goal

-- the lines about the entries before this one
abbrev pub invariant-loop-place : goal.invariant-loop-place
invariant-loop-place l = AreParts (AreWrongLines l.index.raws.now l.size.rows l.size.cols) l.place l.lines.items
