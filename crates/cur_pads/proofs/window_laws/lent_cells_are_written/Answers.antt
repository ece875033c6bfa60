use Rattle.std.proofs.Common.{rules}
use Rattle.cur_windows.proofs.Loans.{lent_written}
use Rattle.cur_pads.proofs.window_laws.lent_cells_are_written.Goals as goal

pub returns-in-Ok : goal.returns-in-Ok
returns-in-Ok c = let told = c.in-Ok.ensures in
    lent_written _ _ _ c.args.y c.args.x c.args.cell c.in-Ok.line.desk.now c.in-Ok.line.slot c.in-Ok.line.row c.into_cells.result.now
    told.answer told.lent.0 told.lent.1 told.line c.into_cells.ensures.value c.requires (search rules)
