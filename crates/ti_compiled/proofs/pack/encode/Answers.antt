use Rattle.std.proofs.Common.{Ok, sym, ap, ◌∙◌}
use Rattle.ti_compiled.specs.Written.{written, packing_of}
use Rattle.ti_compiled.proofs.Files.{packing_large, packing_fits, ok_is}
use Rattle.ti_compiled.proofs.pack.encode.Goals as goal

pub returns-then-limit-size : goal.returns-then-limit-size
returns-then-limit-size c =
    packing_large c.args.entry.now c.plan_of-plan.result c.limit.result c.file_size-size.result c.plan_of-plan.ensures c.limit.ensures c.file_size-size.ensures.value c.if-limit-size.true

pub returns-in-Ok : goal.returns-in-Ok
returns-in-Ok c =
    packing_fits c.args.entry.now c.plan_of-plan.result c.limit.result c.file_size-size.result c.plan_of-plan.ensures c.limit.ensures c.file_size-size.ensures.value c.if-limit-size.false
    ∙ ap (λ file. Ok file) (sym c.in-Ok.ensures)

pub returns-in-Err : goal.returns-in-Err
returns-in-Err c =
    ok_is (written c.args.entry.now) (packing_of c.args.entry.now)
    (packing_fits c.args.entry.now c.plan_of-plan.result c.limit.result c.file_size-size.result c.plan_of-plan.ensures c.limit.ensures c.file_size-size.ensures.value c.if-limit-size.false)
