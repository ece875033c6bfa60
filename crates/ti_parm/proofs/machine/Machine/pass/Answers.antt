use Rattle.std.proofs.Common.{true, false, Ok, ◌∙◌, ap, sym}
use Rattle.ti_parm.specs.Machine.{state_of}
use Rattle.ti_parm.specs.Syntax.{ahead}
use Rattle.ti_parm.proofs.Faults.{Fails-on, IfOk-on}
use Rattle.ti_parm.proofs.Runs.{Fails-first, passed, run-Else, run-End, then-fails, then-holds, then-skips}
use Rattle.ti_parm.proofs.machine.Machine.pass.Goals as goal

pub returns-in-Ok-true-clause-ok : goal.returns-in-Ok-true-clause-ok
returns-in-Ok-true-clause-ok c = rw c.in-Then.is (λ output h.
    let t = state_of c.pop_test.new.self output in
    sym (then-holds (ahead c.args.behind.now) (state_of c.args.self.now output) t (c.in-Ok-true.ensures output ∙ ap (λ b. Ok (b, t)) c.in-Ok-true.field-0-test)))

pub returns-in-Ok-false-clause-ok : goal.returns-in-Ok-false-clause-ok
returns-in-Ok-false-clause-ok c = rw c.in-Then.is (IfOk-on c.skip.result _ _ _ c.skip.ensures.past c.skip.ensures.past (λ rest e _ output h.
    let t = state_of c.pop_test.new.self output in
    passed true c.args.behind.now rest.now t (e h) ∙ sym (then-skips (ahead c.args.behind.now) (state_of c.args.self.now output) t (c.in-Ok-false.ensures output ∙ ap (λ b. Ok (b, t)) c.in-Ok-false.field-0-test))))

pub returns-in-Err-clause-fault : goal.returns-in-Err-clause-fault
returns-in-Err-clause-fault c = rw c.in-Then.is (λ output.
    Fails-first c.first_fault.result c.in-Err.fault _ _ c.first_fault.ensures (λ q. Fails-on _ _ _ (then-fails (ahead c.args.behind.now) (state_of c.args.self.now output) _) (c.in-Err.ensures output)))

pub returns-in-Else-clause-ok : goal.returns-in-Else-clause-ok
returns-in-Else-clause-ok c = rw c.in-Else.is (IfOk-on c.skip-in-Else.result _ _ _ c.skip-in-Else.ensures.past c.skip-in-Else.ensures.past (λ rest e _ output h.
    let s = state_of c.args.self.now output in
    passed false c.args.behind.now rest.now s (e h) ∙ sym (run-Else (ahead c.args.behind.now) s)))

pub returns-in-End-clause-ok : goal.returns-in-End-clause-ok
returns-in-End-clause-ok c = rw c.in-End.is (λ output h. sym (run-End (ahead c.args.behind.now) (state_of c.args.self.now output)))
