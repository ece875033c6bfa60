use Rattle.std.proofs.Common.{◌-◌, sym, ◌∙◌, arith}
use Rattle.std.proofs.lemmas.List.{get_or_read}
use Rattle.vt_screen.specs.Look.{space}
use Rattle.vt_screen.proofs.Styles.{run_start_kept, run_start_new}
use Rattle.vt_screen.proofs.looks.run_start.Goals as goal

pub returns-then-is_shown_as : goal.returns-then-is_shown_as
returns-then-is_shown_as c =
    let a = get_or_read c.args.cells.now (c.args.col - 1) c.index-cells-col.result (omega (arith, c.requires.within)) c.index-cells-col.is space in
    let b = get_or_read c.args.cells.now c.args.col c.index-cells-col-else-col-eq0.result c.requires.within c.index-cells-col-else-col-eq0.is space in
    let same = rw (a, b) at c.is_shown_as.ensures in
    c.requires.before (c.args.col - 1) (omega arith) ∙ sym (run_start_kept c.args.cells.now (c.args.col - 1) c.args.col (omega arith) (sym same ∙ c.if-is_shown_as.true))

pub returns-else-is_shown_as : goal.returns-else-is_shown_as
returns-else-is_shown_as c =
    let a = get_or_read c.args.cells.now (c.args.col - 1) c.index-cells-col.result (omega (arith, c.requires.within)) c.index-cells-col.is space in
    let b = get_or_read c.args.cells.now c.args.col c.index-cells-col-else-col-eq0.result c.requires.within c.index-cells-col-else-col-eq0.is space in
    let same = rw (a, b) at c.is_shown_as.ensures in
    sym (run_start_new c.args.cells.now (c.args.col - 1) c.args.col (omega arith) (sym same ∙ c.if-is_shown_as.false))
