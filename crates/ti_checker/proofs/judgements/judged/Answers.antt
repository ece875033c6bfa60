use Rattle.std.proofs.Common.{sym, ap, ◌∙◌}
use Rattle.std.proofs.lemmas.Bool.{both_ways}
use Rattle.ti_rows.specs.Asked.{asked}
use Rattle.ti_rows.specs.declared.rows.Looks.{Looks}
use Rattle.ti_checker.proofs.Misjudgements.{misfit_misjudged}
use Rattle.ti_checker.proofs.judgements.judged.Goals as goal

pub returns-then-asks_for-clause-asked : goal.returns-then-asks_for-clause-asked
returns-then-asks_for-clause-asked c = c.asks_for.ensures.sound c.if-asks_for.true ∙ ap (λ (l : Looks). asked l c.args.row c.in-Some.effect) c.learned.ensures

pub misfit-requires-clause-unasked : goal.misfit-requires-clause-unasked
misfit-requires-clause-unasked c = λ h. both_ways c.asks_for.result c.if-asks_for.false (c.asks_for.ensures.complete (h ∙ ap (λ (l : Looks). asked l c.args.row c.in-Some.effect) (sym c.learned.ensures)))

pub returns-else-asks_for-clause-misjudged : goal.returns-else-asks_for-clause-misjudged
returns-else-asks_for-clause-misjudged c = λ tokens is. misfit_misjudged c.args.size.rows c.args.size.cols c.args.taught c.args.row tokens c.in-Some.effect c.misfit.result (sym is ∙ c.in-Some.is) c.misfit.ensures
