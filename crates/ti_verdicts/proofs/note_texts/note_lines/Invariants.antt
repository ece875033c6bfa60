use Rattle.std.proofs.Common.{◌≡◌, take}
use Rattle.ti_verdicts.specs.NoteTexts.{notes_text}
use Rattle.ti_verdicts.proofs.note_texts.note_lines.Given as goal

abbrev pub invariant-loop-note : goal.invariant-loop-note
invariant-loop-note l = l.lines.items ≡ notes_text (take l.note-index l.notes)
