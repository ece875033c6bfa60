use Rattle.std.proofs.Common.{◌≡◌, ◌∙◌, ℕ, Option, ap}
use Rattle.cur_moves.specs.Scrolls.{cell_of, shifted}
use Rattle.cur_update.proofs.changes.FoundChanges.columns_after.Goals as goal

pub returns-in-Some-clause-same : goal.returns-in-Some-clause-same
returns-in-Some-clause-same g c old new b =
    let h = c.columns_between.ensures.same old new b.0 in
    let moved : (j : ℕ) → shifted c.args.scroll old c.args.row j ≡ old c.in-Some.line j =
    λ j. c.line_before.ensures old j ∙ ap (λ (o : Option ℕ). cell_of old o j) c.in-Some.is in
    record { before = λ j lt. moved j ∙ h.before j lt; after = λ j le lt. moved j ∙ h.after j le lt }
