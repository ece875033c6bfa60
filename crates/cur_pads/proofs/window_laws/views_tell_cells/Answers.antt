use Rattle.cur_windows.specs.Desks.{grid_at}
use Rattle.cur_windows.proofs.Supports.{found_there}
use Rattle.cur_pads.proofs.Shares.{cell_seen}
use Rattle.cur_pads.proofs.window_laws.views_tell_cells.Goals as goal

pub returns : goal.returns
returns c = λ d n s y x is found. cell_seen s.window.area (grid_at d s.root) y x (is.placed n s (found_there d n s found)).canvas.fits
