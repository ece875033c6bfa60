use Rattle.cur_drawing.proofs.Preservation.{canvas_same}
use Rattle.cur_drawing.proofs.windows.Window.add_character.Goals as goal

pub advance-requires : goal.advance-requires
advance-requires c = canvas_same c.args.grid.now c.clear_line.new.grid c.args.self.now c.clear_line.ensures.shape c.requires.canvas
