use Rattle.std.proofs.Common.{◌≡◌, ◌+◌, ◌-◌, ◌≤◌, ℕ, subst, arith}
use Rattle.cur_paint.specs.Differ.{all_differ}
use Rattle.cur_paint.proofs.Mixtures.{all_more}
use Rattle.cur_paint.proofs.Ranges.{span_few, span_within}
use Rattle.cur_paint.proofs.screens.Screens.columns_in.Goals as goal

pub loop-row-init : goal.loop-row-init
loop-row-init g c = record { most = omega arith; few = omega arith }

pub loop-row-preserved : goal.loop-row-preserved
loop-row-preserved g c =
    let t = g.C.Certificate.table c.args.self.now.checked.now in
    let old = g.O.Picture.cells c.args.self.now.old.now in
    let new = g.N.Picture.cells c.args.self.now.new.now in
    let row = c.loop-row.row in
    let x = c.columns-columns.result in
    let cols = c.cols-cols.result in
    let here = span_within old new row x.from x.end cols (c.columns-columns.ensures.same old new c.requires.compared.changes) c.columns-columns.ensures.order c.columns-columns.ensures.within in
    let line = rw c.cols-cols.ensures.value at here in
    let few = span_few old new row x.from (x.end - x.from) in
    record {
      most = omega (arith, c.loop-row.invariant.most, line, few, all_more old new t.cols row);
      few = omega (arith, c.loop-row.invariant.few, c.columns-columns.ensures.within, c.columns-columns.ensures.order);
    }

pub returns-clause-most : goal.returns-clause-most
returns-clause-most g c =
    let t = g.C.Certificate.table c.args.self.now.checked.now in
    let old = g.O.Picture.cells c.args.self.now.old.now in
    let new = g.N.Picture.cells c.args.self.now.new.now in
    let same : c.loop-row.row ≡ c.args.lines.end = omega (arith, c.requires.order) in
    subst (λ (k : ℕ). all_differ old new t.cols k ≤ all_differ old new t.cols c.args.lines.from + c.loop-row.count) same c.loop-row.invariant.most
