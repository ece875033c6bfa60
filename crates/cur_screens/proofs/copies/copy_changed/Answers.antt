use Rattle.std.proofs.Common.{◌∙◌}
use Rattle.cur_screens.proofs.ChangedRows.{rows_copied}
use Rattle.cur_screens.proofs.MarkFacts.{copied_but_lines, unmarked_lines}
use Rattle.cur_screens.proofs.copies.copy_changed.Goals as goal

pub copy_lines-requires-clause-touched : goal.copy_lines-requires-clause-touched
copy_lines-requires-clause-touched c =
    copied_but_lines c.args.copy.area c.args.copy.from c.rows_from-rows.result c.args.source.now c.args.grid.now c.args.touched.now c.rows_from-rows.ensures.within c.requires.touched

pub returns : goal.returns
returns c =
    let s = c.rows_from-rows.result in
    let lines = c.copy_lines.ensures.copied in
    record {
      copied = record {
        value = lines.value
            ∙ rows_copied c.args.copy.area c.args.copy.from s c.args.source.now c.args.grid.now c.requires.target c.requires.from.source c.rows_from-rows.ensures.within
            (unmarked_lines c.args.copy.area c.args.copy.from s c.args.source.now c.args.grid.now c.args.touched.now c.requires.touched c.rows_from-rows.ensures.others);
        shape = lines.shape;
        marked = lines.marked;
        only = lines.only;
      };
    }
