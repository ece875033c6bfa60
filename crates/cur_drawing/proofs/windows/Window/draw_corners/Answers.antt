use Rattle.std.proofs.Common.{◌∙◌}
use Rattle.cur_drawing.proofs.Preservation.{canvas_same}
use Rattle.cur_drawing.proofs.windows.Window.draw_corners.Goals as goal

pub put_at-requires-2-clause-canvas : goal.put_at-requires-2-clause-canvas
put_at-requires-2-clause-canvas c = canvas_same c.args.grid.now c.put_at.new.grid c.args.self.now c.put_at.ensures.shape c.requires.canvas

pub put_at-requires-3-clause-canvas : goal.put_at-requires-3-clause-canvas
put_at-requires-3-clause-canvas c = canvas_same c.args.grid.now c.put_at-2.new.grid c.args.self.now (c.put_at-2.ensures.shape ∙ c.put_at.ensures.shape) c.requires.canvas

pub put_at-requires-4-clause-canvas : goal.put_at-requires-4-clause-canvas
put_at-requires-4-clause-canvas c = canvas_same c.args.grid.now c.put_at-3.new.grid c.args.self.now (c.put_at-3.ensures.shape ∙ c.put_at-2.ensures.shape ∙ c.put_at.ensures.shape) c.requires.canvas
