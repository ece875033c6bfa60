use Rattle.std.proofs.Common.{arith}
use Rattle.ti_sizes.proofs.StepFacts.{rows_to}
use Rattle.ti_sizes.proofs.steps.has_rows_for.Goals as goal

pub returns-in-To : goal.returns-in-To
returns-in-To c = λ h. rows_to c.args.row c.args.effect.now c.args.n c.in-To.to c.in-To.is (λ rows cols z r. omega (arith, c.ends_by.ensures h, c.last_row.ensures rows cols z r))
