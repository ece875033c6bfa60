use Rattle.std.proofs.Common.{◌∙◌, refl}
use Rattle.std.proofs.lemmas.List.{with_items_is}
use Rattle.grids.proofs.lines.Line.write.Goals as goal

pub returns : goal.returns
returns g c = rw (← c.self.view_is, with_items_is c.self.inside.cells c.write_cells.new.cells (c.write_cells.ensures.len ∙ c.deref_mut.ensures.len), c.write_cells.ensures.written, c.deref_mut.ensures.value) refl
