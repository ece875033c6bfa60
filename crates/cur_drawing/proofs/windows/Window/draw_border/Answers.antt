use Rattle.cur_drawing.proofs.Preservation.{canvas_same}
use Rattle.cur_drawing.proofs.windows.Window.draw_border.Goals as goal

pub draw_corners-requires-clause-canvas : goal.draw_corners-requires-clause-canvas
draw_corners-requires-clause-canvas c = canvas_same c.args.grid.now c.draw_sides.new.grid c.args.self.now c.draw_sides.ensures.shape c.requires
