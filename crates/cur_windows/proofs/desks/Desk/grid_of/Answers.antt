use Rattle.cur_windows.proofs.Displays.{grid_read}
use Rattle.cur_windows.proofs.desks.Desk.grid_of.Goals as goal

pub returns : goal.returns
returns c = grid_read _ _ c.args.slot.now.root c.index.result.now c.self.view_is c.self.invariant c.requires c.index.ensures
