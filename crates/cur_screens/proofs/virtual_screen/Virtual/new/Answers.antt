use Rattle.std.proofs.Common.{arith, subst, sym}
use Rattle.cur_screens.specs.VirtualScreen.{AreDefault}
use Rattle.cur_screens.proofs.Displays.{first_screen, never_set}
use Rattle.cur_screens.proofs.virtual_screen.Virtual.new.Goals as goal

pub invariant_of-result : goal.invariant_of-result
invariant_of-result c = (first_screen c.args.size.rows c.args.size.cols c.in_ok-blank_grid.field-0 c.in_ok-pairs.pairs.items (omega (arith, c.args.size.limits)) (omega (arith, c.args.size.limits)) c.in_ok-blank_grid.ensures c.in_ok-pairs.ensures, subst (AreDefault 0) (sym c.in_ok-pairs.ensures) never_set)
