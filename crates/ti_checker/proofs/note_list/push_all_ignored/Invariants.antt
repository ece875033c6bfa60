use Rattle.std.proofs.Common.{◌≡◌, ◌++◌, take}
use Rattle.ti_checker.specs.Notes.{notes_of}
use Rattle.ti_checker.proofs.note_list.push_all_ignored.Given as goal

abbrev pub invariant-loop-token : goal.invariant-loop-token
invariant-loop-token l = l.notes.items ≡ l.fn.notes.items ++ notes_of l.cap (take l.token-index l.tokens)
