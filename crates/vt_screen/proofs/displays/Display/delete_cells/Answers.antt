use Rattle.vt_screen.proofs.Keeps.{deleted_kept}
use Rattle.vt_screen.proofs.displays.Display.delete_cells.Goals as goal

pub invariant_of-self : goal.invariant_of-self
invariant_of-self c = rw (c.delete.ensures, c.blank-blank.ensures) (deleted_kept c.args.n _ c.self.invariant).screen
