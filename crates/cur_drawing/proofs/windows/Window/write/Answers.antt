use Rattle.std.proofs.Common.{refl, arith}
use Rattle.cur_drawing.proofs.Preservation.{kept_by, canvas_same}
use Rattle.cur_drawing.proofs.windows.Window.write.Goals as goal

pub returns-then-self-clause-kept : goal.returns-then-self-clause-kept
returns-then-self-clause-kept c = kept_by _ _ _ _ c.put_cell.ensures.shape refl
    (record { row = omega arith; col = omega arith; region = omega arith; bottom = omega arith; pair = omega arith; height = omega arith; width = omega arith }) c.requires.canvas

pub advance-requires : goal.advance-requires
advance-requires c = canvas_same c.args.grid.now c.put_cell.new.grid c.args.self.now c.put_cell.ensures.shape c.requires.canvas
