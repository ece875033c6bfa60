use Rattle.cur_windows.proofs.Additions.{root_added_new}
use Rattle.cur_windows.proofs.desks.Desk.add_root.Goals as goal

pub invariant_of-self : goal.invariant_of-self
invariant_of-self c = root_added_new _ _ c.args.n c.args.grid c.args.origin c.args.window c.self.view_is c.self.invariant c.requires.number c.requires.free c.requires.canvas c.requires.whole c.requires.frame
