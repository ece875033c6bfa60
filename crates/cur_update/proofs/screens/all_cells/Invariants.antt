-- The lines before this one have cells.
use Rattle.std.proofs.Common.{◌<◌, ℕ}
use Rattle.cur_drawing.specs.Cells.{IsCell}
use Rattle.cur_update.specs.Inks.{content_at}
use Rattle.cur_update.proofs.screens.all_cells.Given as goal

abbrev pub invariant-loop-row : goal.invariant-loop-row
invariant-loop-row l = (i j : ℕ) → i < l.row → j < l.screen.cols → IsCell (content_at l.screen i j)
