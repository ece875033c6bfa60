use Rattle.std.proofs.Common.{◌≡◌, ◌<◌, ℕ, ap, arith, inl, inr}
use Rattle.cur_update.proofs.MarkedLines.{column_below, equal_unmarked}
use Rattle.cur_update.proofs.changes.Shift.columns_marked.Goals as goal

pub changed_within-requires-clause-before : goal.changed_within-requires-clause-before
changed_within-requires-clause-before g c = λ k zero lt.
    equal_unmarked c.args.marks.now c.args.row c.size-rows.result.1 c.columns.result.at c.columns.result.size c.args.self.now.shown.now.grid c.args.self.now.screen.now.grid _ _
    c.row.ensures.value c.row-2.ensures.value c.requires.marked c.columns.ensures.others k (omega (arith, lt, c.columns.ensures.within)) (inl lt)

pub changed_within-requires-clause-after : goal.changed_within-requires-clause-after
changed_within-requires-clause-after g c = λ k le lt.
    let cols : c.size-rows.result.1 ≡ c.args.self.now.screen.now.cols = ap (λ (p : ℕ × ℕ). p.1) c.size-rows.ensures in
    let below : k < c.args.self.now.screen.now.cols = column_below c.args.self.now.screen.now c.args.row k _ c.row-2.ensures.legal c.row-2.ensures.value lt in
    equal_unmarked c.args.marks.now c.args.row c.size-rows.result.1 c.columns.result.at c.columns.result.size c.args.self.now.shown.now.grid c.args.self.now.screen.now.grid _ _
    c.row.ensures.value c.row-2.ensures.value c.requires.marked c.columns.ensures.others k (omega (arith, cols, below)) (inr le)
