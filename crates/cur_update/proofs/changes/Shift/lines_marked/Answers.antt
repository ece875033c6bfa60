use Rattle.std.proofs.Common.{◌≡◌, ℕ, ap, arith}
use Rattle.cur_update.proofs.MarkedLines.{same_unmarked}
use Rattle.cur_update.proofs.changes.Shift.lines_marked.Goals as goal

pub returns-clause-same : goal.returns-clause-same
returns-clause-same g c old new is =
    let t = g.C.Certificate.table c.args.self.now.checked.now in
    let partners = g.C.Certificate.partners c.args.self.now.checked.now in
    let v = c.args.self.now.shown.now in
    let w = c.args.self.now.screen.now in
    let x = c.rows-span.result in
    let rows : c.size-new_rows.result.0 ≡ w.rows = ap (λ (p : ℕ × ℕ). p.0) c.size-new_rows.ensures in
    let told = c.is_told_by_cells.ensures in
    let is_told = c.if-not-is_told_by_cells.false in
    same_unmarked t partners v w c.args.marks.now c.args.self.now.same_pairs old new x.at x.size c.args.rows c.args.cols is (told.pairs is_told)
    (told.rows is_told) (told.cols is_told) (omega (arith, rows, c.if-rows-new_rows.false)) (told.columns is_told) c.requires.cells c.requires.marked
    (λ i j li side. c.rows-span.ensures.others i j (omega (arith, rows, li)) side) (omega (arith, rows, c.rows-span.ensures.within))
