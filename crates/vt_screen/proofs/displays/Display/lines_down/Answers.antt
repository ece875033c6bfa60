use Rattle.vt_screen.proofs.Keeps.{even_lines, lines_down_kept}
use Rattle.vt_screen.proofs.displays.Display.lines_down.Goals as goal

pub scroll_down-requires-clause-even : goal.scroll_down-requires-clause-even
scroll_down-requires-clause-even c = even_lines _ c.self.invariant

pub invariant_of-self : goal.invariant_of-self
invariant_of-self c = rw (c.scroll_down.ensures, c.blank-blank.ensures) (lines_down_kept c.args.top c.args.bottom c.args.n _ c.self.invariant).screen
