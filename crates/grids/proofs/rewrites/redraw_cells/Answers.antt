use Rattle.grids.proofs.Parts.{redrawn_is_drawn}
use Rattle.grids.proofs.rewrites.redraw_cells.Goals as goal

pub returns-clause-drawn : goal.returns-clause-drawn
returns-clause-drawn g c = (let did = c.redraw_part.ensures in redrawn_is_drawn c.args.from c.args.to (g.R.Rule.made c.args.rule.now) c.args.cells.now c.redraw_part.new.cells did.len did.inside did.before did.behind)
