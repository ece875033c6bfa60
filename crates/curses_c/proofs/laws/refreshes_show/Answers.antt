use Rattle.curses_c.proofs.Reaching.{refreshes_show}
use Rattle.curses_c.proofs.laws.refreshes_show.Goals as goal

pub returns : goal.returns
returns c = refreshes_show
