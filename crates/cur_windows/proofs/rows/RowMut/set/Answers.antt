use Rattle.std.proofs.Common.{sym, subst}
use Rattle.cur_windows.specs.Desks.{State}
use Rattle.cur_windows.specs.Rows.{IsLine}
use Rattle.cur_windows.proofs.Loans.{line_kept}
use Rattle.cur_windows.proofs.rows.RowMut.set.Goals as goal

pub returns-clause-line : goal.returns-clause-line
returns-clause-line c = subst (λ (d : State). IsLine d c.args.self.now.slot c.args.self.now.row) (sym c.put_cell.ensures)
    (line_kept _ c.args.self.now.slot c.args.self.now.row c.args.x c.args.cell c.requires.line)
