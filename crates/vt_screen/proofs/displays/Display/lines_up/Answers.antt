use Rattle.vt_screen.proofs.Keeps.{even_lines, lines_up_kept}
use Rattle.vt_screen.proofs.displays.Display.lines_up.Goals as goal

pub scroll_up-requires-clause-even : goal.scroll_up-requires-clause-even
scroll_up-requires-clause-even c = even_lines _ c.self.invariant

pub invariant_of-self : goal.invariant_of-self
invariant_of-self c = rw (c.scroll_up.ensures, c.blank-blank.ensures) (lines_up_kept c.args.top c.args.bottom c.args.n _ c.self.invariant).screen
