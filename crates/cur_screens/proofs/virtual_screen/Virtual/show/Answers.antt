use Rattle.std.proofs.Common.{subst}
use Rattle.cur_screens.specs.Marks.{MarksOnly}
use Rattle.cur_screens.specs.VirtualScreen.{Screen}
use Rattle.cur_screens.proofs.Displays.{screen_kept}
use Rattle.cur_screens.proofs.virtual_screen.Virtual.show.Goals as goal

pub invariant_of-self : goal.invariant_of-self
invariant_of-self c = (screen_kept _ _ _ _ _ c.self.view_is c.self.invariant.0 c.copy_changed.ensures.copied.shape c.requires.cursor, c.self.invariant.1)

pub returns-clause-only : goal.returns-clause-only
returns-clause-only c = subst (λ (v : Screen). MarksOnly c.args.marks.now v.grid c.copy_changed.new.marks c.copy_changed.new.grid) c.self.view_is c.copy_changed.ensures.copied.only
