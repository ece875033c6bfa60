use Rattle.std.proofs.Common.{refl, sym, ap, ◌∙◌}
use Rattle.std.proofs.lemmas.Result.{err_from_is_err_and}
use Rattle.ti_parm.specs.declared.code.Code.TheVariants.{Act, If, Of}
use Rattle.ti_parm.specs.Machine.{state_of}
use Rattle.ti_parm.specs.Runs.{judged_behind, run_ahead}
use Rattle.ti_parm.specs.Syntax.{ahead, before}
use Rattle.ti_parm.proofs.Faults.{Fails-on, IfErr-on, IfOk-on}
use Rattle.ti_parm.proofs.Judgements.{judged-passed, judged-unpassed}
use Rattle.ti_parm.proofs.Runs.{Fails-first, act-fails, act-goes_on, judged_ahead-same, judged_behind-unread, run-If}
use Rattle.ti_parm.proofs.machine.Machine.step.Goals as goal

pub returns-in_err-pass-in-Of-clause-fault : goal.returns-in_err-pass-in-Of-clause-fault
returns-in_err-pass-in-Of-clause-fault c =
    let p = err_from_is_err_and c.from_residual-in_err-pass-in-Of.result c.from_residual-in_err-pass-in-Of.ensures.1 in
    rw (p.1, p.2, c.in-Of.is) (Fails-on _ _ _ (λ q. judged_behind-unread _ _ _ (judged-unpassed (Of c.in-Of.mark) (ahead c.args.behind.now) c.args.nest.now _ q)) c.in_err-pass-in-Of.ensures)

pub returns-in-Ok-clause-ok : goal.returns-in-Ok-clause-ok
returns-in-Ok-clause-ok c =
    let a = ahead c.args.behind.now in
    let n = c.args.nest.now in
    rw c.in-Act.is (judged_ahead-same a (before (Act c.in-Act.action) a) n n (state_of c.act.new.self c.act.new.out.items) (state_of c.args.self.now c.args.out.now.items) refl (λ h. sym (act-goes_on c.in-Act.action a (state_of c.args.self.now c.args.out.now.items) _ c.in-Ok.ensures.meant)))

pub returns-in-Err-clause-fault : goal.returns-in-Err-clause-fault
returns-in-Err-clause-fault c = rw c.in-Act.is (
    Fails-first c.first_fault.result c.in-Err.fault _ _ c.first_fault.ensures (λ q. Fails-on _ _ _ (act-fails c.in-Act.action (ahead c.args.behind.now) (state_of c.args.self.now c.args.out.now.items) _) c.in-Err.ensures.meant))

pub returns-in_ok-pass-in-If-clause-ok : goal.returns-in_ok-pass-in-If-clause-ok
returns-in_ok-pass-in-If-clause-ok c =
    let a = ahead c.args.behind.now in
    let s = state_of c.args.self.now c.args.out.now.items in
    rw c.in-If.is (judged_ahead-same a (before If a) c.pass.new.self c.args.nest.now s s (judged-passed If a c.args.nest.now c.pass.new.self (rw c.in-If.is at c.in_ok-pass-in-If.ensures)) (λ h. sym (run-If a s h)))

pub returns-in_ok-pass-in-Of-clause-ok : goal.returns-in_ok-pass-in-Of-clause-ok
returns-in_ok-pass-in-Of-clause-ok c =
    let a = ahead c.args.behind.now in
    let mark = c.in-Of.mark in
    let output = c.args.out.now.items in
    rw c.in-Of.is (IfOk-on c.pass-in-Of-2.result _ _ _ c.pass-in-Of-2.ensures.judged c.pass-in-Of-2.ensures.ok (λ rest j f.
    judged_ahead-same (ahead rest.now) (before (Of mark) a) c.pass-in-Of-2.new.nest c.args.nest.now (state_of c.pass-in-Of-2.new.self output) (state_of c.args.self.now output) (j ∙ judged-passed (Of mark) a c.args.nest.now c.pass-in-Of.new.self c.in_ok-pass-in-Of.ensures) (f output)))

pub returns-in_ok-pass-in-Of-clause-fault : goal.returns-in_ok-pass-in-Of-clause-fault
returns-in_ok-pass-in-Of-clause-fault c =
    let a = ahead c.args.behind.now in
    let mark = c.in-Of.mark in
    let output = c.args.out.now.items in
    let answer = run_ahead (before (Of mark) a) (state_of c.args.self.now output) in
    rw c.in-Of.is (IfErr-on c.pass-in-Of-2.result _ _ c.pass-in-Of-2.ensures.fault (λ e f.
    Fails-on _ _ _ (λ q. sym (ap (λ v. judged_behind v answer) (judged-passed (Of mark) a c.args.nest.now c.pass-in-Of.new.self c.in_ok-pass-in-Of.ensures)) ∙ q) (f output)))
