use Rattle.std.proofs.Common.{◌≡◌, length, ◌∙◌, ap, sym, arith}
use Rattle.std.proofs.lemmas.Result.{err_from_is_err_and}
use Rattle.std.proofs.lemmas.Grind.{common_steps}
use Rattle.ti_parm.specs.Machine.{state_of}
use Rattle.ti_parm.specs.Runs.{judged_ahead}
use Rattle.ti_parm.specs.Syntax.{ahead}
use Rattle.ti_parm.proofs.Faults.{Fails-on, Gives-ended}
use Rattle.ti_parm.proofs.Output.{take-kept}
use Rattle.ti_parm.proofs.Runs.{judged_ahead-nothing, judged_ahead-run}
use Rattle.ti_parm.proofs.run.run.Goals as goal

pub loop-rest-init : goal.loop-rest-init
loop-rest-init c =
    let string = c.args.string.now in
    let start = state_of c.args.machine.now c.args.out.now.items in
    record {
      meant = ap (λ n. judged_ahead (ahead string) n start) c.new-nest.ensures ∙ judged_ahead-run string start;
      kept = grind (arith, common_steps);
    }

pub returns-in_err-rest-clause-meant : goal.returns-in_err-rest-clause-meant
returns-in_err-rest-clause-meant c =
    let p = err_from_is_err_and c.from_residual.result c.from_residual.ensures.1 in
    rw (p.1, p.2) (Fails-on _ _ _ (λ q. sym c.loop-rest.invariant.meant ∙ q) c.in_err-rest.ensures.fault)

pub loop-rest-preserved : goal.loop-rest-preserved
loop-rest-preserved c = record {
  meant = c.in_ok-rest.ensures.ok ∙ c.loop-rest.invariant.meant;
  kept = take-kept c.args.out.now.items c.loop-rest.out.items c.advance.ensures.grows.0 c.advance.new.out.items c.loop-rest.invariant.kept c.advance.ensures.grows.1;
}

pub returns-clause-meant : goal.returns-clause-meant
returns-clause-meant c =
    let text = c.loop-rest.rest.now in
    let none : length text ≡ 0 = grind (arith, common_steps) in
    let s = state_of c.loop-rest.machine c.loop-rest.out.items in
    Gives-ended c.end.result _ _ s (sym c.loop-rest.invariant.meant ∙ judged_ahead-nothing text c.loop-rest.nest s none) c.end.ensures
