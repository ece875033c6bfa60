use Rattle.cur_drawing.proofs.Preservation.{canvas_same}
use Rattle.cur_drawing.proofs.windows.Window.lines_up.Goals as goal

pub fill_lines-requires-clause-canvas : goal.fill_lines-requires-clause-canvas
fill_lines-requires-clause-canvas c = canvas_same c.args.grid.now c.shift_lines.new.grid c.args.self.now c.shift_lines.ensures.shape c.requires.canvas
