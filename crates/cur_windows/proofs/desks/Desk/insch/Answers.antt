use Rattle.cur_windows.proofs.Closures.{closes_grid}
use Rattle.cur_windows.proofs.desks.Desk.insch.Goals as goal

pub invariant_of-self : goal.invariant_of-self
invariant_of-self c = closes_grid _ _ c.args.id _ _ _ c.self.view_is c.self.invariant c.in_ok-slot.ensures.there c.index_mut-grid.ensures.value c.insert_char.ensures.shape
