use Rattle.std.proofs.Common.{refl, arith}
use Rattle.cur_drawing.proofs.Preservation.{kept_by}
use Rattle.cur_drawing.proofs.windows.Window.erase.Goals as goal

pub returns-clause-kept : goal.returns-clause-kept
returns-clause-kept c = kept_by _ _ _ _ c.fill.ensures.shape refl
    (record { row = omega arith; col = omega arith; region = omega arith; bottom = omega arith; pair = omega arith; height = omega arith; width = omega arith }) c.requires
