use Rattle.std.proofs.Common.{◌≡◌, drop}
use Rattle.ticurses.specs.Originals.{are_unread}
use Rattle.ticurses.proofs.originals.are_unread.Given as goal

-- the files behind those that were passed decide
abbrev pub invariant-loop-file : goal.invariant-loop-file
invariant-loop-file l = are_unread l.originals (drop l.file-index l.files) ≡ are_unread l.originals l.files
