use Rattle.cur_paint.proofs.Starts.{reset_fresh}
use Rattle.cur_paint.proofs.laws.reset_is_fresh.Goals as goal

pub returns : goal.returns
returns c = reset_fresh
