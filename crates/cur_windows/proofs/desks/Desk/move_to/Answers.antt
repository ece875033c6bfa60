use Rattle.cur_windows.proofs.Closures.{closes_window}
use Rattle.cur_windows.proofs.desks.Desk.move_to.Goals as goal

pub invariant_of-self : goal.invariant_of-self
invariant_of-self c = closes_window _ _ c.args.id _ _ c.self.view_is c.self.invariant c.in_ok-slot.ensures.there c.move_to-answer.ensures.kept.area c.move_to-answer.ensures.kept.legal
