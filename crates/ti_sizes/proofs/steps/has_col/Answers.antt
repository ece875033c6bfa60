use Rattle.std.proofs.Common.{arith}
use Rattle.std.proofs.lemmas.Bool.{leb-true}
use Rattle.ti_sizes.proofs.steps.has_col.Goals as goal

pub returns : goal.returns
returns c = λ h rows cols z r. omega (arith, leb-true c.saturating_sub.result c.last_col.result h, c.saturating_sub.ensures, c.last_col.ensures rows cols z r)
