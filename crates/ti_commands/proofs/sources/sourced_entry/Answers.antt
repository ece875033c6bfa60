use Rattle.std.proofs.Common.{Result, inl, inr, refl, subst}
use Rattle.ti_caps.specs.Entry.{Content}
use Rattle.ti_commands.specs.Findings.{Finds}
use Rattle.ti_files.specs.declared.failure.CommandRefusal.{CommandRefusal}
use Rattle.ti_commands.proofs.sources.sourced_entry.Goals as goal

-- the entry that is refused is the one that the word gives
pub returns-clause-failure : goal.returns-clause-failure
returns-clause-failure g c =
    let notes = c.in_ok-text.field-0.notes.items in
    let found = inl (c.in-Some.path.now, c.in-Some.name.now, c.in-Some.ensures.parts, c.in_ok-text.ensures.found) in
    inr (c.in-Err.refusal, notes, refl, subst (λ (entry : Result Content CommandRefusal). Finds (g.F.Files.holds c.args.files.now) c.args.word.now notes entry) c.in-Err.is found)

pub returns-in-Ok-clause-gives : goal.returns-in-Ok-clause-gives
returns-in-Ok-clause-gives g c =
    let notes = c.in_ok-text.field-0.notes.items in
    let found = inl (c.in-Some.path.now, c.in-Some.name.now, c.in-Some.ensures.parts, c.in_ok-text.ensures.found) in
    (notes, subst (λ (entry : Result Content CommandRefusal). Finds (g.F.Files.holds c.args.files.now) c.args.word.now notes entry) c.in-Ok.is found)
