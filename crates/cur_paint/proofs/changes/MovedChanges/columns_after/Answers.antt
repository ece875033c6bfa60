use Rattle.std.proofs.Common.{arith}
use Rattle.cur_paint.proofs.Ranges.{stayed_same}
use Rattle.cur_paint.proofs.changes.MovedChanges.columns_after.Goals as goal

pub returns-then-line-row-clause-same : goal.returns-then-line-row-clause-same
returns-then-line-row-clause-same g c h new m =
    let x = c.columns.result in
    stayed_same c.args.scroll h new c.args.row x.from x.end c.args.cols c.line_before.result c.in-Some.line c.in-Some.is (omega (arith, c.if-line-row.true)) (λ j. c.line_before.ensures h j) (c.columns.ensures.same h new m)
