use Rattle.cur_pads.proofs.Shares.{subwin_part}
use Rattle.cur_pads.proofs.window_laws.subwin_makes_subwindows.Goals as goal

pub returns : goal.returns
returns c = subwin_part
