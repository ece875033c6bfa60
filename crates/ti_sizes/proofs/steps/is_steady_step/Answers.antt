use Rattle.std.proofs.Common.{sym, subst}
use Rattle.std.proofs.lemmas.Bool.{ne_eqb}
use Rattle.vt_term.specs.Function.{Function}
use Rattle.ti_sizes.specs.Steady.{IsSteadyStep}
use Rattle.ti_sizes.proofs.StepFacts.{row_steady, column_steady, position_steady, cells_steady, margins_steady}
use Rattle.ti_sizes.proofs.steps.is_steady_step.Goals as goal

pub returns-in-CursorRow : goal.returns-in-CursorRow
returns-in-CursorRow c = λ h. subst (λ (f : Function). IsSteadyStep c.args.row f c.args.effect.now) (sym c.in-CursorRow.is) (row_steady c.args.row c.in-CursorRow.line c.args.effect.now (c.has_row.ensures h))

pub returns-in-CursorColumn : goal.returns-in-CursorColumn
returns-in-CursorColumn c = λ h. subst (λ (f : Function). IsSteadyStep c.args.row f c.args.effect.now) (sym c.in-CursorColumn.is) (column_steady c.args.row c.in-CursorColumn.col c.args.effect.now (c.has_col.ensures h))

pub returns-then-has_row : goal.returns-then-has_row
returns-then-has_row c = λ h. subst (λ (f : Function). IsSteadyStep c.args.row f c.args.effect.now) (sym c.in-CursorPosition.is)
    (position_steady c.args.row c.in-CursorPosition.line c.in-CursorPosition.col c.args.effect.now (c.has_row-in-CursorPosition.ensures c.if-has_row.true) (c.has_col-then-has_row.ensures h))

pub returns-in-EraseCells : goal.returns-in-EraseCells
returns-in-EraseCells c = λ h. subst (λ (f : Function). IsSteadyStep c.args.row f c.args.effect.now) (sym c.in-EraseCells.is) (cells_steady c.args.row c.in-EraseCells.n c.args.effect.now (c.has_col-in-EraseCells.ensures h))

pub returns-then-last-ne0 : goal.returns-then-last-ne0
returns-then-last-ne0 c = λ h. subst (λ (f : Function). IsSteadyStep c.args.row f c.args.effect.now) (sym c.in-Margins.is)
    (margins_steady c.args.row c.in-Margins.field-0 c.in-Margins.last c.args.effect.now (ne_eqb c.in-Margins.last 0 c.if-last-ne0.true) (c.has_row-then-last-ne0.ensures h))
