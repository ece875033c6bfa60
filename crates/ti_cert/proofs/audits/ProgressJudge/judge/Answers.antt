use Rattle.std.proofs.lemmas.Result.{on_ok_weaker, IfErr-weaker}
use Rattle.ti_cert.specs.Audits.{OrNoMemory, AnswersLater, AnswersLine}
use Rattle.ti_cert.proofs.AuditSteps.{later_line, later_refused}
use Rattle.std.proofs.Common.{Ok}
use Rattle.ti_cert.proofs.audits.ProgressJudge.judge.Goals as goal

pub returns-in-Rows-clause-ok : goal.returns-in-Rows-clause-ok
returns-in-Rows-clause-ok c = on_ok_weaker c.judge_later.result (λ h. later_line c.args.self.now c.args.line.now (Ok c.judge_later.new.self) c.in-Rows.is h) c.judge_later.ensures.ok

pub returns-in-Rows-clause-err : goal.returns-in-Rows-clause-err
returns-in-Rows-clause-err c = IfErr-weaker c.judge_later.result (λ kind. OrNoMemory kind (AnswersLater c.args.self.now c.args.line.now)) (λ kind. OrNoMemory kind (AnswersLine c.args.self.now c.args.line.now))
    (λ kind h. later_refused c.args.self.now c.args.line.now kind c.in-Rows.is h) c.judge_later.ensures.err
