use Rattle.std.proofs.Common.{ap, ◌∙◌}
use Rattle.ti_parm.specs.Machine.{state_of}
use Rattle.ti_parm.specs.Value.{values_of}
use Rattle.ti_parm.proofs.Expansion.{begin, meaning-ends, meaning-fails}
use Rattle.ti_parm.proofs.run.expand.Goals as goal

pub returns-in-Ok-clause-ok : goal.returns-in-Ok-clause-ok
returns-in-Ok-clause-ok c =
    let given = values_of c.args.params.now in
    let statics = c.args.statics.now in
    let before = c.args.out.now.items in
    let machine = c.new-machine.result in
    let all = meaning-ends c.args.string.now before given statics (state_of machine before) _ (begin machine before given statics c.new-machine.ensures) c.in-Ok.ensures.meant in
    (all.0, all.1, ap (λ s. s.output) all.2, c.replace.ensures ∙ ap (λ s. s.statics) all.2)

pub returns-clause-fault : goal.returns-clause-fault
returns-clause-fault c =
    let given = values_of c.args.params.now in
    let statics = c.args.statics.now in
    let before = c.args.out.now.items in
    let machine = c.new-machine.result in
    meaning-fails c.args.string.now before given statics (state_of machine before) _ (begin machine before given statics c.new-machine.ensures) c.in-Err.ensures.meant
