use Rattle.vt_screen.proofs.Keeps.{placed_kept}
use Rattle.vt_screen.proofs.displays.Display.place.Goals as goal

pub invariant_of-self : goal.invariant_of-self
invariant_of-self c = rw (c.set.ensures, c.cell-cell.ensures, c.is_graphic.ensures, c.min-self-inside.ensures) (placed_kept c.args.byte _ c.requires c.self.invariant).screen
