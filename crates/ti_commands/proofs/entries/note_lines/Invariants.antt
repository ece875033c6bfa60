use Rattle.std.proofs.Common.{◌≡◌, take}
use Rattle.ti_commands.specs.Findings.{notes_text}
use Rattle.ti_commands.proofs.entries.note_lines.Given as goal

abbrev pub invariant-loop-raw : goal.invariant-loop-raw
invariant-loop-raw l = l.lines.items ≡ notes_text (take l.raw-index l.raws)
