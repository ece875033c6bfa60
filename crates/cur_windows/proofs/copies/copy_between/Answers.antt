use Rattle.cur_windows.proofs.CopyFacts.{other_grid}
use Rattle.cur_windows.proofs.copies.copy_between.Goals as goal

pub returns : goal.returns
returns c = other_grid c.args.grids.now c.args.source c.args.target c.replace-grid.new.dest c.replace-grid.result c.overlay_from.new.grid c.index-grids-source.result _ c.args.patch.copy.area c.args.patch.copy.from c.args.patch.skip
    c.requires.source c.requires.target c.if-source-target.false c.replace-grid.ensures.value c.overlay_from.ensures.value
