use Rattle.std.proofs.Common.{arith, inl, inr}
use Rattle.cur_screens.specs.Marks.{Marking}
use Rattle.cur_screens.specs.Touched.{TouchesGrid}
use Rattle.cur_screens.proofs.UsedMarks.{all_marked_at, grid_full, is_used, not_used}
use Rattle.cur_screens.proofs.touched.touch.Goals as goal
use Rattle.cur_screens.proofs.touched.touch.Goals.{then-origin-via-then-origin, then-origin-via-else-origin+then-root-touched}

pub returns-then-origin : goal.returns-then-origin
returns-then-origin c =
    let s = c.args.slot.now in let o = c.args.origin in let t = c.args.touched.now in
    let all = all_marked_at c.touched.inside.used c.touched.inside.grids.items t s.root c.touched.view_is in
    not_used (λ (m n : Marking). TouchesGrid m n s.window o c.args.first) t s.root o.pad (grid_full s.window o c.args.first)
    (elim c.then-origin.branch [ then-origin-via-then-origin w ↦ inl w.if-origin.true | then-origin-via-else-origin+then-root-touched w ↦ inr (all w.if-root-touched.true) ])

pub returns : goal.returns
returns c =
    let s = c.args.slot.now in let o = c.args.origin in
    is_used (λ (m n : Marking). TouchesGrid m n s.window o c.args.first) c.touched.inside.used c.touched.inside.grids.items c.args.touched.now s.root o.pad c.index_mut.result.now c.touch_grid.new.marks c.touched.view_is
    c.if-root-touched.false (omega (arith, c.if-root-touched.false, c.touched.invariant)) c.index_mut.ensures.value c.touch_grid.ensures c.if-origin.false
