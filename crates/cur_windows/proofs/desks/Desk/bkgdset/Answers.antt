use Rattle.cur_windows.proofs.Closures.{closes_window}
use Rattle.cur_windows.proofs.desks.Desk.bkgdset.Goals as goal

pub invariant_of-self : goal.invariant_of-self
invariant_of-self c = closes_window _ _ c.args.id _ _ c.self.view_is c.self.invariant c.in_ok-slot.ensures.there c.set_background-answer.ensures.kept.area c.set_background-answer.ensures.kept.legal
