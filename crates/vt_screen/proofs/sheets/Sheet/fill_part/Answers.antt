use Rattle.std.proofs.Common.{List}
use Rattle.vt_screen.specs.Look.{Look}
use Rattle.vt_screen.specs.Grid.{part_filled}
use Rattle.vt_screen.proofs.Rings.{changed_there, start_within}
use Rattle.vt_screen.proofs.sheets.Sheet.fill_part.Goals as goal

pub invariant_of-self : goal.invariant_of-self
invariant_of-self c = rw (c.fill_part.ensures) (start_within _ _ _ c.self.invariant)

pub returns : goal.returns
returns c = rw (c.fill_part.ensures) (changed_there _ _ _ (λ (l : List Look). part_filled c.args.from c.args.to c.args.cell) _ _ c.self.view_is c.self.invariant c.requires.row_within c.place_of-at.ensures.place)
