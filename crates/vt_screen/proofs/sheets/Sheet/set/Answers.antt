use Rattle.vt_screen.proofs.Rings.{filled_there, start_within}
use Rattle.vt_screen.proofs.sheets.Sheet.set.Goals as goal

pub invariant_of-self : goal.invariant_of-self
invariant_of-self c = rw (c.set.ensures.value) (start_within _ _ _ c.self.invariant)

pub returns : goal.returns
returns c = rw (c.set.ensures.value) (filled_there _ _ _ _ _ _ _ c.self.view_is c.self.invariant c.requires.row_within c.place_of-at.ensures.place)
