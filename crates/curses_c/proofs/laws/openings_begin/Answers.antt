use Rattle.curses_c.proofs.Reaching.{openings_begin}
use Rattle.curses_c.proofs.laws.openings_begin.Goals as goal

pub returns : goal.returns
returns c = openings_begin
