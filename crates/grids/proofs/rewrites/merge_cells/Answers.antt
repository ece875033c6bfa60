use Rattle.std.proofs.Common.{◌∙◌, sym}
use Rattle.grids.proofs.Parts.{merged_is_drawn}
use Rattle.grids.proofs.rewrites.merge_cells.Goals as goal

pub returns-then-replaces-clause-drawn : goal.returns-then-replaces-clause-drawn
returns-then-replaces-clause-drawn g c = (let did = c.copy_part.ensures in
    merged_is_drawn c.args.pass.to c.args.pass.count c.args.pass.from (g.R.Merge.merged c.args.rule.now) c.args.source.now c.args.cells.now c.copy_part.new.cells did.len
    (λ k d h l. did.inside k d h l ∙ sym (c.replaces.ensures c.if-replaces.true _ _)) did.before did.behind c.requires.from)
