use Rattle.std.proofs.Common.{ℕ, List, subst}
use Rattle.cur_commands.specs.Faults.{disagreement_text}
use Rattle.ti_verdicts.specs.Refusals.{IsVerdict}
use Rattle.cur_commands.proofs.verifications.agree_failure.Goals as goal

pub returns-in-Disagree : goal.returns-in-Disagree
returns-in-Disagree c =
    let f = c.in-Disagree in
    let told = c.verdict.ensures (disagreement_text f.cap c.as_slice.result.now) c.disagreement_words.ensures in
    rw f.is (subst (λ (l : List ℕ). IsVerdict (disagreement_text f.cap l) c.verdict.result) c.as_slice.ensures.value told)
