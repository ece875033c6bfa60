use Rattle.std.proofs.Common.{Result, inr, refl, subst}
use Rattle.ti_caps.specs.Entry.{Content}
use Rattle.ti_commands.specs.Findings.{Finds}
use Rattle.ti_files.specs.declared.failure.CommandRefusal.{CommandRefusal}
use Rattle.ti_commands.proofs.descriptions.entry_of.Goals as goal

pub returns-clause-failure : goal.returns-clause-failure
returns-clause-failure g c =
    let notes = c.in_ok-text.field-0.notes.items in
    inr (c.in-Err.refusal, notes, refl, subst (λ (entry : Result Content CommandRefusal). Finds (g.F.Files.holds c.args.files.now) c.args.word.now notes entry) c.in-Err.is c.in_ok-text.ensures.found)

pub returns-in-Ok-clause-entry : goal.returns-in-Ok-clause-entry
returns-in-Ok-clause-entry g c =
    let notes = c.in_ok-text.field-0.notes.items in
    (notes, subst (λ (entry : Result Content CommandRefusal). Finds (g.F.Files.holds c.args.files.now) c.args.word.now notes entry) c.in-Ok.is c.in_ok-text.ensures.found)
