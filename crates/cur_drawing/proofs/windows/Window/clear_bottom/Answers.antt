use Rattle.cur_drawing.proofs.Preservation.{canvas_same}
use Rattle.cur_drawing.proofs.windows.Window.clear_bottom.Goals as goal

pub fill_lines-requires-clause-canvas : goal.fill_lines-requires-clause-canvas
fill_lines-requires-clause-canvas c = canvas_same c.args.grid.now c.clear_line.new.grid c.args.self.now c.clear_line.ensures.shape c.requires
