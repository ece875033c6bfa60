use Rattle.vt_screen.proofs.Erasures.{some_cells_erased}
use Rattle.vt_screen.proofs.displays.Display.erase_cells.Goals as goal

pub returns : goal.returns
returns c = rw (c.erase_part.ensures, c.min-to.ensures, ← c.self.view_is) (some_cells_erased c.args.n _ c.self.invariant)
