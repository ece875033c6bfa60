use Rattle.std.proofs.Common.{◌∙◌}
use Rattle.cur_drawing.specs.Calls.{place}
use Rattle.cur_screens.proofs.ChangedRows.{rows_copied}
use Rattle.cur_screens.proofs.MarkFacts.{same_is_copied, unmarked_lines}
use Rattle.cur_screens.proofs.copies.copy_marked.Goals as goal

pub returns-clause-value : goal.returns-clause-value
returns-clause-value c =
    let a = c.args.area in let s = c.rows_from-rows.result in
    let from = place a.top a.left in
    c.copy_marked_rows.ensures.value
    ∙ rows_copied a from s c.args.source.now c.args.grid.now c.requires.both.target (record { rows = c.requires.both.source.rows; cols = c.requires.both.source.cols }) c.rows_from-rows.ensures.within
    (unmarked_lines a from s c.args.source.now c.args.grid.now c.args.marks.now (same_is_copied a c.args.source.now c.args.grid.now c.args.marks.now c.requires.marked) c.rows_from-rows.ensures.others)
