use Rattle.std.proofs.Common.{of_z, to_z, w32}
use Rattle.cur_drawing.specs.Windows as window
use Rattle.cur_play.proofs.GridFacts.{keeps_on_cursor}
use Rattle.cur_play.proofs.MarkFacts.{keeps_full}
use Rattle.cur_play.proofs.windows.numbers_call.Goals as goal

pub returns-in-Mvwin-clause-touched : goal.returns-in-Mvwin-clause-touched
returns-in-Mvwin-clause-touched c = keeps_full c.args.touched.now c.mark_all.new.self c.args.desk.now c.mvwin.new.self c.mark_all.ensures.full

pub returns-in-Move-clause-touched : goal.returns-in-Move-clause-touched
returns-in-Move-clause-touched c =
    keeps_on_cursor c.args.touched.now c.args.desk.now c.move_to.new.self c.args.window (window.move_to (to_z w32 (of_z w32 c.args.numbers.0)) (to_z w32 (of_z w32 c.args.numbers.1))) c.move_to.result c.move_to.ensures

pub returns-in-Setscrreg-clause-touched : goal.returns-in-Setscrreg-clause-touched
returns-in-Setscrreg-clause-touched c =
    keeps_on_cursor c.args.touched.now c.args.desk.now c.setscrreg.new.self c.args.window (window.set_region (to_z w32 (of_z w32 c.args.numbers.0)) (to_z w32 (of_z w32 c.args.numbers.1))) c.setscrreg.result c.setscrreg.ensures

pub returns-in-Touchline-clause-touched : goal.returns-in-Touchline-clause-touched
returns-in-Touchline-clause-touched c = λ v shown. shown
