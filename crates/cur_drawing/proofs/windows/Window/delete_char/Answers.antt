use Rattle.cur_drawing.proofs.Preservation.{canvas_same}
use Rattle.cur_drawing.proofs.windows.Window.delete_char.Goals as goal

pub fill_cells-requires-clause-canvas : goal.fill_cells-requires-clause-canvas
fill_cells-requires-clause-canvas c = canvas_same c.args.grid.now c.shift_cells.new.grid c.args.self.now c.shift_cells.ensures.shape c.requires
