use Rattle.std.proofs.Common.{subst}
use Rattle.vt_term.specs.Scanned.{IsTextFault}
use Rattle.ti_checker.proofs.judgements.not_whole.Goals as goal

pub returns-in-Unfinished : goal.returns-in-Unfinished
returns-in-Unfinished c = λ bytes h. (c.args.fault.at, subst (λ k. IsTextFault bytes c.args.fault.at k) c.in-Unfinished.is h)

pub returns-in-Stuck : goal.returns-in-Stuck
returns-in-Stuck c = λ bytes h. (c.args.fault.at, subst (λ k. IsTextFault bytes c.args.fault.at k) c.in-Stuck.is h)
