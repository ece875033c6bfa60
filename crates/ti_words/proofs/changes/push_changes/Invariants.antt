-- The changes so far, and then those of the cells that are left, are all changes.
use Rattle.std.proofs.Common.{◌≡◌, ◌++◌, drop}
use Rattle.ti_words.specs.Seen.{changes_in}
use Rattle.ti_words.proofs.changes.push_changes.Given as goal

abbrev pub invariant-loop-col : goal.invariant-loop-col
invariant-loop-col l = l.changes.items ++ changes_in l.fill l.row l.col (drop l.col l.cells) ≡ l.initial.changes.items ++ changes_in l.fill l.row 0 l.cells
