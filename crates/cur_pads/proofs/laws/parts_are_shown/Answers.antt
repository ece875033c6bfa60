use Rattle.cur_pads.proofs.Passages.{shows_cells}
use Rattle.cur_pads.proofs.laws.parts_are_shown.Goals as goal

pub returns : goal.returns
returns c = shows_cells
