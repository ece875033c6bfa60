use Rattle.std.proofs.Common.{take}
use Rattle.ti_rows.specs.Names.{firsts}
use Rattle.ti_checker.specs.Notes.{RowsNotes}
use Rattle.ti_checker.proofs.note_list.notes.Given as goal

abbrev pub invariant-loop-place : goal.invariant-loop-place
invariant-loop-place l = RowsNotes l.entry (take l.place firsts) l.notes.items
