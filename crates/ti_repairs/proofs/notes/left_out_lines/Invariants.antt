use Rattle.std.proofs.Common.{◌≡◌, take}
use Rattle.ti_repairs.specs.Notes as spec
use Rattle.ti_repairs.proofs.notes.left_out_lines.Given as goal

abbrev pub invariant-loop-one : goal.invariant-loop-one
invariant-loop-one l = l.lines.items ≡ spec.left_out_lines l.named l.raws (take l.one-index l.kept)
