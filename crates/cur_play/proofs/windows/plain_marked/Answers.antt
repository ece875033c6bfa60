use Rattle.cur_play.proofs.MarkFacts.{keeps_full}
use Rattle.cur_play.proofs.WindowMarks.{keeps_plain}
use Rattle.cur_play.proofs.windows.plain_marked.Goals as goal

pub returns-in-Delwin-clause-touched : goal.returns-in-Delwin-clause-touched
returns-in-Delwin-clause-touched c = keeps_full c.args.touched.now c.mark_all.new.self c.args.desk.now c.plain.new.desk c.mark_all.ensures.full

pub returns-clause-touched : goal.returns-clause-touched
returns-clause-touched c = keeps_plain c.args.touched.now c.mark_window.new.touched c.args.call c.args.desk.now c.plain-2.new.desk c.args.window c.plain-2.result c.mark_window.ensures.legal c.in_default.not-Delwin c.plain-2.ensures c.mark_window.ensures.marks
