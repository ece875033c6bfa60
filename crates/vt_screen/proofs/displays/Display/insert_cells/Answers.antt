use Rattle.vt_screen.proofs.Keeps.{inserted_kept}
use Rattle.vt_screen.proofs.displays.Display.insert_cells.Goals as goal

pub invariant_of-self : goal.invariant_of-self
invariant_of-self c = rw (c.insert.ensures, c.blank-blank.ensures) (inserted_kept c.args.n _ c.self.invariant).screen
