-- The changes so far, and then those of the rows that are left, are all changes.
use Rattle.std.proofs.Common.{◌≡◌, ◌++◌, drop}
use Rattle.ti_words.specs.Seen.{changes_from}
use Rattle.ti_words.proofs.changes.changed_cells.Given as goal

abbrev pub invariant-loop-row : goal.invariant-loop-row
invariant-loop-row l = l.changes.items ++ changes_from l.fill l.row (drop l.row l.terminal.screen.grid) ≡ changes_from l.fill 0 l.terminal.screen.grid
