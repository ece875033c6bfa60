use Rattle.std.proofs.Common.{Ok, Some, None, refl, ap, ◌∙◌}
use Rattle.std.proofs.lemmas.Int.{to_z-of_z}
use Rattle.cur_windows.specs.Desks.{State}
use Rattle.cur_windows.proofs.CopyFacts.{copywin_by}
use Rattle.cur_windows.proofs.desks.Desk.copywin.Goals as goal

pub returns-in_default : goal.returns-in_default
returns-in_default c =
    let a = c.ranges.from_row in let b = c.ranges.from_col in let e = c.ranges.row in let f = c.ranges.col in let g = c.ranges.last_row in let h = c.ranges.last_col in
    copywin_by _ _ _ c.args.from_row c.args.from_col c.args.row c.args.col c.args.last_row c.args.last_col c.args.skip _ _ c.in_ok-source.source c.in_ok-target.target None _
    c.in_ok-in_range.ensures.value c.in_ok-source.ensures.value c.in_ok-target.ensures.value
    (simp to_z-of_z at c.in_ok-in_order.ensures.value) (rw c.in_default.is at (simp to_z-of_z at c.matched-rows.ensures.value)) refl

pub returns-in_default-cols : goal.returns-in_default-cols
returns-in_default-cols c =
    let a = c.ranges.from_row in let b = c.ranges.from_col in let e = c.ranges.row in let f = c.ranges.col in let g = c.ranges.last_row in let h = c.ranges.last_col in
    copywin_by _ _ _ c.args.from_row c.args.from_col c.args.row c.args.col c.args.last_row c.args.last_col c.args.skip _ _ c.in_ok-source.source c.in_ok-target.target (Some c.in-Some.rows) None
    c.in_ok-in_range.ensures.value c.in_ok-source.ensures.value c.in_ok-target.ensures.value
    (simp to_z-of_z at c.in_ok-in_order.ensures.value) (rw c.in-Some.is at (simp to_z-of_z at c.matched-rows.ensures.value)) (rw c.in_default-cols.is at (simp to_z-of_z at c.matched-cols.ensures.value))

pub returns : goal.returns
returns c =
    let a = c.ranges.from_row in let b = c.ranges.from_col in let e = c.ranges.row in let f = c.ranges.col in let g = c.ranges.last_row in let h = c.ranges.last_col in
    ap (λ (d : State). (d, Ok tt)) c.copy_spans.ensures
    ∙ copywin_by _ _ _ c.args.from_row c.args.from_col c.args.row c.args.col c.args.last_row c.args.last_col c.args.skip _ _ c.in_ok-source.source c.in_ok-target.target (Some c.in-Some.rows) (Some c.in-Some-cols.cols)
    c.in_ok-in_range.ensures.value c.in_ok-source.ensures.value c.in_ok-target.ensures.value
    (simp to_z-of_z at c.in_ok-in_order.ensures.value) (rw c.in-Some.is at (simp to_z-of_z at c.matched-rows.ensures.value)) (rw c.in-Some-cols.is at (simp to_z-of_z at c.matched-cols.ensures.value))
