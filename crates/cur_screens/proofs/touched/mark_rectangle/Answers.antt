use Rattle.std.proofs.Common.{arith, false, inr, refl}
use Rattle.cur_screens.specs.Marks.{Marking}
use Rattle.cur_screens.specs.Touched.{MarksArea}
use Rattle.cur_screens.proofs.UsedMarks.{all_marked_at, area_full, is_used, not_used}
use Rattle.cur_screens.proofs.touched.mark_rectangle.Goals as goal

pub returns-then-root-touched : goal.returns-then-root-touched
returns-then-root-touched c =
    let t = c.args.touched.now in
    let all = all_marked_at c.touched.inside.used c.touched.inside.grids.items t c.args.root c.touched.view_is c.if-root-touched.true in
    let on = not_used (λ (m n : Marking). MarksArea m n c.args.area) t c.args.root false (area_full c.args.area) (inr all) in
    record { grid = on.grid refl; none = on.none; others = on.others }

pub returns : goal.returns
returns c =
    let on = is_used (λ (m n : Marking). MarksArea m n c.args.area) c.touched.inside.used c.touched.inside.grids.items c.args.touched.now c.args.root false c.index_mut.result.now c.mark_area.new.marks c.touched.view_is
    c.if-root-touched.false (omega (arith, c.if-root-touched.false, c.touched.invariant)) c.index_mut.ensures.value c.mark_area.ensures refl in
    record { grid = on.grid refl; none = on.none; others = on.others }
