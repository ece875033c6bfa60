use Rattle.std.proofs.Common.{subst}
use Rattle.ti_sizes.specs.Answers.{IsAnswer}
use Rattle.ti_sizes.specs.declared.verdicts.EverySize.{EverySize}
use Rattle.ti_everywhere.specs.Checks.{Wrong, InDoubt}
use Rattle.ti_everywhere.proofs.Results.{some_words}
use Rattle.ti_everywhere.proofs.checks.reply_of.Goals as goal

pub returns-in-No-clause-reply : goal.returns-in-No-clause-reply
returns-in-No-clause-reply c = λ entry h.
    Wrong c.in-No.field-0.rows c.in-No.field-0.cols c.in-No.no c.no_failure.result (subst (λ (a : EverySize). IsAnswer entry a) c.in-No.is h) c.no_failure.ensures c.failing.ensures

pub returns-in-Undecided-clause-reply : goal.returns-in-Undecided-clause-reply
returns-in-Undecided-clause-reply c = λ entry h.
    let words = some_words c.doubt_words.result (λ v. v.items) c.verdict.result c.verdict.ensures in
    InDoubt words.0 c.verdict.result (subst (λ (a : EverySize). IsAnswer entry a) c.in-Undecided.is h) words.1 c.failing-in-Undecided.ensures
