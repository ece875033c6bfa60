use Rattle.ti_rows.proofs.Rightness.{recorded_is_right}
use Rattle.ti_rows.proofs.laws.recorded_is_right.Goals as goal

pub returns : goal.returns
returns c = recorded_is_right
