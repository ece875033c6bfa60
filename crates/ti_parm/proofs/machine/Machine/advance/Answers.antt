use Rattle.std.proofs.lemmas.Result.{err_from_is_err_and}
use Rattle.ti_parm.specs.Machine.{state_of}
use Rattle.ti_parm.proofs.Faults.{Fails-from}
use Rattle.ti_parm.proofs.Judgements.{judged-fault}
use Rattle.ti_parm.proofs.Runs.{judged_ahead-code, judged_behind-unread}
use Rattle.ti_parm.proofs.machine.Machine.advance.Goals as goal

pub returns-in-Some-clause-ok : goal.returns-in-Some-clause-ok
returns-in-Some-clause-ok c = rw (judged_ahead-code c.args.text.now c.in-Some.behind.now c.in-Some.code c.args.nest.now (state_of c.args.self.now c.args.out.now.items) c.requires c.in-Some.ensures.code) c.step.ensures.ok

pub returns-in-Some-clause-fault : goal.returns-in-Some-clause-fault
returns-in-Some-clause-fault c = rw (judged_ahead-code c.args.text.now c.in-Some.behind.now c.in-Some.code c.args.nest.now (state_of c.args.self.now c.args.out.now.items) c.requires c.in-Some.ensures.code) c.step.ensures.fault

pub returns-in_err-code-clause-fault : goal.returns-in_err-code-clause-fault
returns-in_err-code-clause-fault c =
    let p = err_from_is_err_and c.from_residual.result c.from_residual.ensures.1 in
    rw (p.1, p.2) (Fails-from _ _ (judged_behind-unread _ _ _ (judged-fault c.args.text.now c.args.nest.now _ c.requires c.in_err-code.ensures.code)))

pub returns-clause-ok : goal.returns-clause-ok
returns-clause-ok c = rw (judged_ahead-code c.args.text.now c.in_ok-code.behind.now c.in_ok-code.code c.args.nest.now (state_of c.args.self.now c.args.out.now.items) c.requires c.in_ok-code.ensures.code) c.step-2.ensures.ok

pub returns-clause-fault : goal.returns-clause-fault
returns-clause-fault c = rw (judged_ahead-code c.args.text.now c.in_ok-code.behind.now c.in_ok-code.code c.args.nest.now (state_of c.args.self.now c.args.out.now.items) c.requires c.in_ok-code.ensures.code) c.step-2.ensures.fault
