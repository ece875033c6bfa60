use Rattle.vt_screen.proofs.Keeps.{lines_erased_kept}
use Rattle.vt_screen.proofs.displays.Display.erase_lines.Goals as goal

pub invariant_of-self : goal.invariant_of-self
invariant_of-self c = rw (c.fill_lines.ensures, c.blank-blank.ensures) (lines_erased_kept c.args.from c.args.to _ c.self.invariant).screen
