use Rattle.std.proofs.Common.{◌≡◌, ◌+◌, ℕ, subst, arith}
use Rattle.cur_paint.specs.Differ.{all_differ}
use Rattle.cur_paint.proofs.Mixtures.{all_grows, all_more}
use Rattle.cur_paint.proofs.screens.Screens.count_lines.Goals as goal

pub loop-row-init : goal.loop-row-init
loop-row-init g c = record { count = omega arith; few = omega arith }

pub returns-then-count-most-clause-within : goal.returns-then-count-most-clause-within
returns-then-count-most-clause-within g c =
    let t = g.C.Certificate.table c.args.self.now.checked.now in
    let old = g.O.Picture.cells c.args.self.now.old.now in
    let new = g.N.Picture.cells c.args.self.now.new.now in
    let row = c.loop-row.row in
    let here = rw (c.cols-cols.ensures.value) at c.count_line-count.ensures.value in
    let grows = all_grows old new t.cols (row + 1) c.args.lines.end (omega (arith, c.loop-row-test.true)) in
    omega (arith, c.loop-row.invariant.count, here, all_more old new t.cols row, grows)

pub returns-clause-value : goal.returns-clause-value
returns-clause-value g c e =
    let t = g.C.Certificate.table c.args.self.now.checked.now in
    let old = g.O.Picture.cells c.args.self.now.old.now in
    let new = g.N.Picture.cells c.args.self.now.new.now in
    let same : c.loop-row.row ≡ c.args.lines.end = omega (arith, c.requires.order) in
    subst (λ (k : ℕ). all_differ old new t.cols c.args.lines.from + c.loop-row.count ≡ all_differ old new t.cols k) same c.loop-row.invariant.count

pub returns-clause-within : goal.returns-clause-within
returns-clause-within g c =
    let t = g.C.Certificate.table c.args.self.now.checked.now in
    let old = g.O.Picture.cells c.args.self.now.old.now in
    let new = g.N.Picture.cells c.args.self.now.new.now in
    let grows = all_grows old new t.cols c.loop-row.row c.args.lines.end (omega (arith, c.requires.order)) in
    omega (arith, c.loop-row.invariant.count, grows)
