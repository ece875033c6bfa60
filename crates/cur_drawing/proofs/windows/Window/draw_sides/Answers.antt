use Rattle.std.proofs.Common.{◌∙◌}
use Rattle.cur_drawing.proofs.Preservation.{canvas_same}
use Rattle.cur_drawing.proofs.windows.Window.draw_sides.Goals as goal

pub fill_lines-requires-2-clause-canvas : goal.fill_lines-requires-2-clause-canvas
fill_lines-requires-2-clause-canvas c = canvas_same c.args.grid.now c.fill_lines.new.grid c.args.self.now c.fill_lines.ensures.shape c.requires.canvas

pub fill_column-requires-clause-canvas : goal.fill_column-requires-clause-canvas
fill_column-requires-clause-canvas c = canvas_same c.args.grid.now c.fill_lines-2.new.grid c.args.self.now (c.fill_lines-2.ensures.shape ∙ c.fill_lines.ensures.shape) c.requires.canvas

pub fill_column-requires-2-clause-canvas : goal.fill_column-requires-2-clause-canvas
fill_column-requires-2-clause-canvas c = canvas_same c.args.grid.now c.fill_column.new.grid c.args.self.now (c.fill_column.ensures.shape ∙ c.fill_lines-2.ensures.shape ∙ c.fill_lines.ensures.shape) c.requires.canvas
