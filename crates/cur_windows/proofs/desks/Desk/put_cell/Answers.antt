use Rattle.cur_windows.proofs.Loans.{closes_root}
use Rattle.cur_windows.proofs.desks.Desk.put_cell.Goals as goal

pub invariant_of-self : goal.invariant_of-self
invariant_of-self c = closes_root _ _ c.args.root _ _ c.self.view_is c.self.invariant c.requires.root c.index_mut-grid.ensures.value c.set.ensures.shape
