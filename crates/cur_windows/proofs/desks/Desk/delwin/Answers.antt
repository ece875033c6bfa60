use Rattle.cur_windows.proofs.Additions.{deleted_desk}
use Rattle.cur_windows.proofs.desks.Desk.delwin.Goals as goal

pub invariant_of-self : goal.invariant_of-self
invariant_of-self c = deleted_desk _ _ c.args.id c.empty.result c.self.view_is c.self.invariant c.in_ok-find.ensures.there.0 c.in_ok-check_childless.ensures.good.0 c.in_ok-check_childless.ensures.good.1 c.empty.ensures
