use Rattle.std.proofs.Common.{subst}
use Rattle.cur_scripts.specs.declared.calls.Call.{Call}
use Rattle.cur_play.specs.Groups.{Does}
use Rattle.cur_play.specs.Groups.{shaping}
use Rattle.cur_play.proofs.WindowMarks.{keeps_border, keeps_box, keeps_line}
use Rattle.cur_play.proofs.windows.shape_marked.Goals as goal

pub returns-in-Line-clause-touched : goal.returns-in-Line-clause-touched
returns-in-Line-clause-touched c =
    keeps_line c.args.touched.now c.mark_window.new.touched c.in-Line.call c.args.desk.now c.shape.new.desk c.in-Line.window c.in-Line.put c.in-Line.count c.shape.result c.mark_window.ensures.legal
    (subst (λ (x : Call). Does c.args.desk.now c.shape.new.desk c.shape.result (shaping c.args.desk.now x)) c.in-Line.is c.shape.ensures) c.mark_window.ensures.marks

pub returns-in-DrawBorder-clause-touched : goal.returns-in-DrawBorder-clause-touched
returns-in-DrawBorder-clause-touched c =
    keeps_border c.args.touched.now c.mark_window-in-DrawBorder.new.touched c.args.desk.now c.shape-in-DrawBorder.new.desk c.in-DrawBorder.window c.in-DrawBorder.border c.shape-in-DrawBorder.result c.mark_window-in-DrawBorder.ensures.legal
    (subst (λ (x : Call). Does c.args.desk.now c.shape-in-DrawBorder.new.desk c.shape-in-DrawBorder.result (shaping c.args.desk.now x)) c.in-DrawBorder.is c.shape-in-DrawBorder.ensures) c.mark_window-in-DrawBorder.ensures.marks

pub returns-in-DrawBox-clause-touched : goal.returns-in-DrawBox-clause-touched
returns-in-DrawBox-clause-touched c =
    keeps_box c.args.touched.now c.mark_window-in-DrawBox.new.touched c.args.desk.now c.shape-in-DrawBox.new.desk c.in-DrawBox.window c.in-DrawBox.vertical c.in-DrawBox.horizontal c.shape-in-DrawBox.result c.mark_window-in-DrawBox.ensures.legal
    (subst (λ (x : Call). Does c.args.desk.now c.shape-in-DrawBox.new.desk c.shape-in-DrawBox.result (shaping c.args.desk.now x)) c.in-DrawBox.is c.shape-in-DrawBox.ensures) c.mark_window-in-DrawBox.ensures.marks
