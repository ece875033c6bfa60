use Rattle.std.proofs.Common.{◌≡◌, [], ap, ◌∙◌}
use Rattle.std.proofs.lemmas.Result.{err_from_is_err_and}
use Rattle.ti_parm.specs.Machine.{state_of}
use Rattle.ti_parm.specs.Meaning.{start_of}
use Rattle.ti_parm.specs.Value.{values_of, zeros}
use Rattle.ti_parm.proofs.Expansion.{begin, meaning-ends, meaning-fails}
use Rattle.ti_parm.proofs.run.run_alone.Goals as goal

pub returns-clause-ok : goal.returns-clause-ok
returns-clause-ok c =
    let given = values_of c.args.params.now in
    let before = c.args.out.now.items in
    let machine = c.new-machine.result in
    let start = begin machine before given zeros (c.new-machine.ensures ∙ ap (start_of given) c.new-statics.ensures) in
    let all = meaning-ends c.args.string.now before given zeros (state_of machine before) _ start c.in_ok-run.ensures.meant in
    let uses : c.run.new.machine.first_uses ≡ all.0.first_uses = ap (λ s. s.first_uses) all.2 in
    (all.0, all.1, rw (← uses) (c.reads_unset.ensures []), ap (λ s. s.output) all.2)

pub returns-in_err-run-clause-fault : goal.returns-in_err-run-clause-fault
returns-in_err-run-clause-fault c =
    let p = err_from_is_err_and c.from_residual.result c.from_residual.ensures.1 in
    let given = values_of c.args.params.now in
    let before = c.args.out.now.items in
    let machine = c.new-machine.result in
    let start = begin machine before given zeros (c.new-machine.ensures ∙ ap (start_of given) c.new-statics.ensures) in
    rw (p.1, p.2) (meaning-fails c.args.string.now before given zeros (state_of machine before) _ start c.in_err-run.ensures.meant)
