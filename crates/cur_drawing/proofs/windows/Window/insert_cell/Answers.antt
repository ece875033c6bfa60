use Rattle.cur_drawing.proofs.Preservation.{canvas_same}
use Rattle.cur_drawing.proofs.windows.Window.insert_cell.Goals as goal

pub put_cell-requires : goal.put_cell-requires
put_cell-requires c = canvas_same c.args.grid.now c.shift_cells.new.grid c.args.self.now c.shift_cells.ensures.shape c.requires
