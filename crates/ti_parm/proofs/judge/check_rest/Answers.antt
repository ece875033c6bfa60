use Rattle.std.proofs.Common.{◌≡◌, ◌<◌, length, ◌∙◌, sym, arith}
use Rattle.std.proofs.lemmas.Result.{err_from_is_err_and}
use Rattle.std.proofs.lemmas.Grind.{common_steps}
use Rattle.ti_parm.proofs.Faults.{Answers-Gives, Fails-from, Fails-on}
use Rattle.ti_parm.proofs.Judgements.{judged-ended, judged-fault, judged-on, judged-stop}
use Rattle.ti_parm.proofs.judge.check_rest.Goals as goal

pub returns-in_err-code : goal.returns-in_err-code
returns-in_err-code c =
    let p = err_from_is_err_and c.from_residual.result c.from_residual.ensures.1 in
    let some : 0 < length c.loop-rest.rest.now = grind (arith, common_steps) in
    rw (p.1, p.2) (Fails-from _ _ (sym c.loop-rest.invariant ∙ judged-fault c.loop-rest.rest.now c.loop-rest.nest _ some c.in_err-code.ensures.code))

pub returns-in_err-pass : goal.returns-in_err-pass
returns-in_err-pass c =
    let p = err_from_is_err_and c.from_residual-in_err-pass.result c.from_residual-in_err-pass.ensures.1 in
    let some : 0 < length c.loop-rest.rest.now = grind (arith, common_steps) in
    rw (p.1, p.2) (Fails-on _ _ _ (λ q. sym c.loop-rest.invariant ∙ judged-stop c.loop-rest.rest.now c.in_ok-code.behind.now c.in_ok-code.code c.loop-rest.nest _ some c.in_ok-code.ensures.code q) c.in_err-pass.ensures)

pub loop-rest-preserved : goal.loop-rest-preserved
loop-rest-preserved c =
    let some : 0 < length c.loop-rest.rest.now = grind (arith, common_steps) in
    sym (judged-on c.loop-rest.rest.now c.in_ok-code.behind.now c.in_ok-code.code c.loop-rest.nest c.pass.new.self some c.in_ok-code.ensures.code c.in_ok-pass.ensures) ∙ c.loop-rest.invariant

pub returns : goal.returns
returns c =
    let none : length c.loop-rest.rest.now ≡ 0 = grind (arith, common_steps) in
    Answers-Gives (λ _. tt) c.end.result _ _ (sym c.loop-rest.invariant ∙ judged-ended c.loop-rest.rest.now c.loop-rest.nest none) c.end.ensures
