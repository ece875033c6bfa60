use Rattle.std.proofs.Common.{of_z, to_z, w32}
use Rattle.cur_drawing.specs.Calls as call
use Rattle.cur_drawing.specs.Windows as window
use Rattle.cur_drawing.proofs.Stability as staying
use Rattle.cur_play.proofs.GridFacts.{keeps_on_cursor}
use Rattle.cur_windows.proofs.AreaMarks.{keeps_on_grid}
use Rattle.cur_windows.proofs.Shapes as shapes
use Rattle.cur_play.proofs.windows.number_call.Goals as goal

pub returns-in-Scroll-clause-touched : goal.returns-in-Scroll-clause-touched
returns-in-Scroll-clause-touched c =
    keeps_on_grid c.args.touched.now c.mark_window.new.touched c.args.desk.now c.scroll.new.self c.args.window (call.scroll_by (to_z w32 (of_z w32 c.args.number))) c.scroll.result
    c.mark_window.ensures.legal (staying.scroll_by (to_z w32 (of_z w32 c.args.number))) (shapes.scroll_by (to_z w32 (of_z w32 c.args.number))) c.scroll.ensures c.mark_window.ensures.marks

pub returns-in-ColorSet-clause-touched : goal.returns-in-ColorSet-clause-touched
returns-in-ColorSet-clause-touched c = keeps_on_cursor c.args.touched.now c.args.desk.now c.color_set.new.self c.args.window (window.set_pair (to_z w32 (of_z w32 c.args.number))) c.color_set.result c.color_set.ensures
