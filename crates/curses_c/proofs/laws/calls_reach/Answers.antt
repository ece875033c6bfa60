use Rattle.curses_c.proofs.Reaching.{calls_reach}
use Rattle.curses_c.proofs.laws.calls_reach.Goals as goal

pub returns : goal.returns
returns c = calls_reach
