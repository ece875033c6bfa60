use Rattle.std.proofs.Common.{◌∙◌}
use Rattle.cur_drawing.specs.Calls.{place}
use Rattle.cur_screens.proofs.ChangedRows.{row_copied}
use Rattle.cur_screens.proofs.MarkFacts.{equal_beside_marks}
use Rattle.cur_screens.proofs.copies.copy_marked_row.Goals as goal

pub returns-clause-value : goal.returns-clause-value
returns-clause-value c =
    let a = c.args.area in let s = c.columns-span.result in
    c.copy_cells.ensures.value
    ∙ row_copied a (place a.top a.left) c.args.k s c.args.source.now c.args.grid.now c.requires.within c.requires.both.target
    (record { rows = c.requires.both.source.rows; cols = c.requires.both.source.cols }) c.columns-span.ensures.within
    (equal_beside_marks a c.args.k s c.args.source.now c.args.grid.now c.args.marks.now c.requires.both.left c.requires.marked c.columns-span.ensures.others)
