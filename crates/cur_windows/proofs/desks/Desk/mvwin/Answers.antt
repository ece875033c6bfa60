use Rattle.cur_windows.proofs.Additions.{moved_desk}
use Rattle.cur_windows.proofs.desks.Desk.mvwin.Goals as goal

pub invariant_of-self : goal.invariant_of-self
invariant_of-self c = moved_desk _ _ c.args.id c.in_ok-slot.slot c.in-Some.top c.in-Some-start_within.left c.self.view_is c.self.invariant c.in_ok-slot.ensures.placed c.in_ok-no_sub.ensures.own c.in-Some.ensures.within c.in-Some-start_within.ensures.within
