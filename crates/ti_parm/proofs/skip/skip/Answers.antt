use Rattle.std.proofs.Common.{◌≡◌, ◌<◌, length, ◌∙◌, sym, arith}
use Rattle.std.proofs.lemmas.Grind.{common_steps}
use Rattle.std.proofs.lemmas.Result.{err_from_is_err_and}
use Rattle.ti_parm.specs.Syntax.{ahead}
use Rattle.ti_parm.proofs.Faults.{Fails-from, Fails-on}
use Rattle.ti_parm.proofs.Judgements.{HasEnd-code, judged-fault, judged-on, judged-stop}
use Rattle.ti_parm.proofs.Rests.{HasEnd-before}
use Rattle.ti_parm.proofs.Skips.{depth_behind-le, skip-end, skip-nothing, skip-on}
use Rattle.ti_parm.proofs.skip.skip.Goals as goal

pub returns-in_err-code-clause-fault : goal.returns-in_err-code-clause-fault
returns-in_err-code-clause-fault c =
    let p = err_from_is_err_and c.from_residual.result c.from_residual.ensures.1 in
    let some : 0 < length c.loop-rest.rest.now = grind (arith, common_steps) in
    rw (p.1, p.2) (Fails-from _ _ (sym c.loop-rest.invariant.judged ∙ judged-fault c.loop-rest.rest.now c.loop-rest.nest _ some c.in_err-code.ensures.code))

pub returns-in_err-pass-clause-fault : goal.returns-in_err-pass-clause-fault
returns-in_err-pass-clause-fault c =
    let p = err_from_is_err_and c.from_residual-in_err-pass.result c.from_residual-in_err-pass.ensures.1 in
    let some : 0 < length c.loop-rest.rest.now = grind (arith, common_steps) in
    rw (p.1, p.2) (Fails-on _ _ _ (λ q. sym c.loop-rest.invariant.judged ∙ judged-stop c.loop-rest.rest.now c.in_ok-code.behind.now c.in_ok-code.code c.loop-rest.nest _ some c.in_ok-code.ensures.code q) c.in_err-pass.ensures)

pub loop-rest-preserved : goal.loop-rest-preserved
loop-rest-preserved c =
    let text = c.loop-rest.rest.now in
    let code = c.in_ok-code.code in
    let rest = c.in_ok-code.behind.now in
    let some : 0 < length text = grind (arith, common_steps) in
    let on = sym c.depth_behind.ensures ∙ c.in-Some.is in
    record {
      judged = sym (judged-on text rest code c.loop-rest.nest c.pass.new.self some c.in_ok-code.ensures.code c.in_ok-pass.ensures) ∙ c.loop-rest.invariant.judged;
      past = λ h.
          let r = c.loop-rest.invariant.past h in
          (HasEnd-before code (ahead rest) (HasEnd-code text rest code some c.in_ok-code.ensures.code r.0), sym (skip-on text rest code c.loop-rest.depth c.in-Some.further c.args.to_else some c.in_ok-code.ensures.code r.0 on) ∙ r.1);
      shallow = omega (arith, c.loop-rest.invariant.shallow, c.in_ok-code.ensures.shorter, depth_behind-le code c.loop-rest.depth c.in-Some.further c.args.to_else on);
    }

pub returns-in-None-clause-judged : goal.returns-in-None-clause-judged
returns-in-None-clause-judged c =
    let some : 0 < length c.loop-rest.rest.now = grind (arith, common_steps) in
    sym (judged-on c.loop-rest.rest.now c.in_ok-code.behind.now c.in_ok-code.code c.loop-rest.nest c.pass.new.self some c.in_ok-code.ensures.code c.in_ok-pass.ensures) ∙ c.loop-rest.invariant.judged

pub returns-in-None-clause-past : goal.returns-in-None-clause-past
returns-in-None-clause-past c h =
    let text = c.loop-rest.rest.now in
    let some : 0 < length text = grind (arith, common_steps) in
    sym (skip-end text c.in_ok-code.behind.now c.in_ok-code.code c.loop-rest.depth c.args.to_else some c.in_ok-code.ensures.code (sym c.depth_behind.ensures ∙ c.in-None.is))
    ∙ (c.loop-rest.invariant.past h).1

pub returns-clause-past : goal.returns-clause-past
returns-clause-past c h =
    let none : length c.loop-rest.rest.now ≡ 0 = grind (arith, common_steps) in
    sym (skip-nothing c.loop-rest.rest.now c.loop-rest.depth c.args.to_else none) ∙ (c.loop-rest.invariant.past h).1
