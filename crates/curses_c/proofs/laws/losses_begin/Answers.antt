use Rattle.curses_c.proofs.Reaching.{losses_begin}
use Rattle.curses_c.proofs.laws.losses_begin.Goals as goal

pub returns : goal.returns
returns c = losses_begin
