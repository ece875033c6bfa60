use Rattle.std.proofs.Common.{◌≡◌, ◌++◌, take, flat_map}
use Rattle.ti_commands.specs.Findings.{note_line}
use Rattle.ti_commands.proofs.entries.push_notes.Given as goal

abbrev pub invariant-loop-note : goal.invariant-loop-note
invariant-loop-note l = l.lines.items ≡ l.fn.lines.items ++ flat_map note_line (take l.note-index l.notes)
