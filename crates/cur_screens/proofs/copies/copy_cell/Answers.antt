use Rattle.std.proofs.Common.{◌∙◌}
use Rattle.cur_screens.proofs.ChangedRows.{cell_is_copied}
use Rattle.cur_screens.proofs.copies.copy_cell.Goals as goal

pub returns-clause-value : goal.returns-clause-value
returns-clause-value c =
    c.set.ensures.value
    ∙ cell_is_copied c.args.copy.area c.args.copy.from c.args.source.now c.args.grid.now c.get-cell.result c.requires.rows c.requires.cols c.get-cell.ensures
