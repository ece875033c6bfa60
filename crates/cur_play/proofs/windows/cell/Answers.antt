use Rattle.cur_drawing.specs.Calls as call
use Rattle.cur_drawing.specs.Windows as window
use Rattle.cur_drawing.proofs.Stability as staying
use Rattle.cur_play.proofs.GridFacts.{keeps_on_cursor}
use Rattle.cur_windows.proofs.AreaMarks.{keeps_on_grid, keeps_on_window}
use Rattle.cur_windows.proofs.Shapes as shapes
use Rattle.cur_play.proofs.windows.cell.Goals as goal

pub returns-in-Insch-clause-touched : goal.returns-in-Insch-clause-touched
returns-in-Insch-clause-touched c = keeps_on_grid c.args.touched.now c.mark_window.new.touched c.args.desk.now c.insch.new.self c.args.window (call.insert_char c.args.put) c.insch.result c.mark_window.ensures.legal (staying.insert_char c.args.put) (shapes.insert_char c.args.put) c.insch.ensures c.mark_window.ensures.marks

pub returns-in-Bkgdset-clause-touched : goal.returns-in-Bkgdset-clause-touched
returns-in-Bkgdset-clause-touched c = keeps_on_cursor c.args.touched.now c.args.desk.now c.bkgdset.new.self c.args.window (window.set_background c.args.put) c.bkgdset.result c.bkgdset.ensures

pub returns-in-Bkgd-clause-touched : goal.returns-in-Bkgd-clause-touched
returns-in-Bkgd-clause-touched c = keeps_on_window c.args.touched.now c.mark_window-in-Bkgd.new.touched c.args.desk.now c.bkgd.new.self c.args.window (call.change_background c.args.put) c.bkgd.result c.mark_window-in-Bkgd.ensures.legal (staying.change_background c.args.put) (shapes.change_background c.args.put) c.bkgd.ensures c.mark_window-in-Bkgd.ensures.marks
