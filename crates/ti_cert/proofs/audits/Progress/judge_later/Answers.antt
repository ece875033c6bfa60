use Rattle.std.proofs.Common.{IfSome, Ok, sym, subst, ◌∙◌}
use Rattle.std.proofs.lemmas.Result.{on_ok_weaker, IfErr-weaker}
use Rattle.std.proofs.lemmas.Option.{none-some}
use Rattle.ti_lines.specs.RowLines.{IsTextOf}
use Rattle.ti_cert.specs.Audits.{OrNoMemory, AnswersLast, AnswersLater, AnswersRow}
use Rattle.ti_cert.proofs.AuditSteps.{later_last, last_refused, later_row, row_refused, later_none}
use Rattle.ti_cert.proofs.audits.Progress.judge_later.Goals as goal

pub returns-then-is_end_line-clause-ok : goal.returns-then-is_end_line-clause-ok
returns-then-is_end_line-clause-ok c = on_ok_weaker c.judge_end.result (λ h. later_last c.args.self.now c.args.text.now (Ok c.judge_end.new.self) (sym c.is_end_line.ensures ∙ c.if-is_end_line.true) h) c.judge_end.ensures.ok

pub returns-then-is_end_line-clause-err : goal.returns-then-is_end_line-clause-err
returns-then-is_end_line-clause-err c = IfErr-weaker c.judge_end.result (λ kind. OrNoMemory kind (AnswersLast c.args.self.now)) (λ kind. OrNoMemory kind (AnswersLater c.args.self.now c.args.text.now))
    (λ kind h. last_refused c.args.self.now c.args.text.now kind (sym c.is_end_line.ensures ∙ c.if-is_end_line.true) h) c.judge_end.ensures.err

pub returns-in-Some-clause-ok : goal.returns-in-Some-clause-ok
returns-in-Some-clause-ok c = on_ok_weaker c.judge_row.result (λ h. later_row c.args.self.now c.replace-room.new.dest c.args.text.now c.in-Some.line (Ok c.judge_row.new.self) (sym c.is_end_line.ensures ∙ c.if-is_end_line.false)
    (subst (λ o. IfSome o (λ line. IsTextOf c.args.text.now line)) c.in-Some.is c.in_ok-line.ensures.found) h) c.judge_row.ensures.ok

pub returns-in-Some-clause-err : goal.returns-in-Some-clause-err
returns-in-Some-clause-err c = IfErr-weaker c.judge_row.result (λ kind. OrNoMemory kind (AnswersRow (record c.args.self.now { room = c.replace-room.new.dest }) c.in-Some.line)) (λ kind. OrNoMemory kind (AnswersLater c.args.self.now c.args.text.now))
    (λ kind h. row_refused c.args.self.now c.replace-room.new.dest c.args.text.now c.in-Some.line kind (sym c.is_end_line.ensures ∙ c.if-is_end_line.false)
    (subst (λ o. IfSome o (λ line. IsTextOf c.args.text.now line)) c.in-Some.is c.in_ok-line.ensures.found) h) c.judge_row.ensures.err

pub returns-in-None-clause-err : goal.returns-in-None-clause-err
returns-in-None-clause-err c = later_none c.args.self.now c.args.text.now c.misplaced.result (sym c.is_end_line.ensures ∙ c.if-is_end_line.false)
    (λ line is. none-some line (sym c.in-None.is ∙ c.in_ok-line.ensures.each line is)) c.misplaced.ensures
