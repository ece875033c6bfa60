use Rattle.std.proofs.Common.{refl}
use Rattle.cur_drawing.proofs.Preservation.{kept_by}
use Rattle.cur_drawing.proofs.windows.Window.put_next.Goals as goal

pub returns-clause-kept : goal.returns-clause-kept
returns-clause-kept c =
    let legal = c.requires.canvas.window in
    kept_by _ _ _ _ c.put_cell.ensures.shape refl
    (record { row = legal.row; col = c.requires.before; region = legal.region; bottom = legal.bottom; pair = legal.pair; height = legal.height; width = legal.width }) c.requires.canvas
