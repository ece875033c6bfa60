use Rattle.std.proofs.Common.{List}
use Rattle.std.proofs.lemmas.List.{length-set}
use Rattle.vt_screen.specs.Look.{Look, shown_by}
use Rattle.vt_screen.specs.Grid.{written}
use Rattle.vt_screen.proofs.Rings.{edited_there}
use Rattle.vt_screen.proofs.sheets.Sheet.write.Goals as goal

pub invariant_of-self : goal.invariant_of-self
invariant_of-self c = rw (c.write.ensures, length-set _ _ _) c.self.invariant

pub returns : goal.returns
returns c = rw (c.write.ensures) (edited_there _ _ _ (λ (l : List Look). written (shown_by c.args.ink.now.pen.now c.args.ink.now.graphic) c.args.col c.args.bytes.now l) _ _ c.self.view_is c.self.invariant c.requires.row_within c.place_of-at.ensures.place)
