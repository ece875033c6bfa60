use Rattle.std.proofs.Common.{sym, ap, ◌∙◌, arith}
use Rattle.ti_compiled.specs.Written.{is_wide}
use Rattle.ti_compiled.proofs.Rows.{numbers_length}
use Rattle.ti_compiled.proofs.Files.{form_narrow, form_wide}
use Rattle.ti_compiled.proofs.pack.form_for.Goals as goal

pub returns-then-is_wide : goal.returns-then-is_wide
returns-then-is_wide c =
    form_wide c.args.entry.now c.loop-position.position (omega (arith, numbers_length c.args.entry.now c.requires.size))
    (sym (c.is_wide.ensures ∙ ap is_wide c.number_there.ensures) ∙ c.if-is_wide.true)

pub returns : goal.returns
returns c =
    form_narrow c.args.entry.now (λ k h. c.loop-position.invariant k (omega (arith, numbers_length c.args.entry.now c.requires.size)))
