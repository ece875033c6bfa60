use Rattle.std.proofs.Common.{arith}
use Rattle.std.proofs.lemmas.Bool.{leb-true}
use Rattle.ti_sizes.proofs.steps.has_row.Goals as goal

pub returns : goal.returns
returns c = λ h rows cols z r. omega (arith, leb-true c.saturating_sub.result c.last_row.result h, c.saturating_sub.ensures, c.last_row.ensures rows cols z r)
