use Rattle.std.proofs.Common.{refl, arith}
use Rattle.cur_drawing.proofs.Preservation.{kept_by}
use Rattle.cur_drawing.proofs.windows.Window.advance.Goals as goal

pub returns-then-self-2-clause-kept : goal.returns-then-self-2-clause-kept
returns-then-self-2-clause-kept c = kept_by _ _ _ _ c.lines_up.ensures.shape refl
    (record { row = omega arith; col = omega arith; region = omega arith; bottom = omega arith; pair = omega arith; height = omega arith; width = omega arith }) c.requires
