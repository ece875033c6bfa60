use Rattle.curses_c.proofs.Reaching.{losses_fit}
use Rattle.curses_c.proofs.laws.losses_fit.Goals as goal

pub returns : goal.returns
returns c = losses_fit
