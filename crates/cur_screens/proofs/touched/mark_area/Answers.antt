use Rattle.std.proofs.Common.{◌≡◌, ℕ, arith, subst}
use Rattle.grids.proofs.Rectangles.{top_rows}
use Rattle.cur_screens.specs.Touched.{MarksArea}
use Rattle.cur_screens.proofs.Marked.{line_marked, no_line_marked}
use Rattle.cur_screens.proofs.touched.mark_area.Goals as goal

pub loop-k-init : goal.loop-k-init
loop-k-init c = no_line_marked c.args.marks.now c.args.area

pub loop-k-preserved : goal.loop-k-preserved
loop-k-preserved c = line_marked c.args.marks.now c.loop-k.marks c.mark.new.self c.args.area c.loop-k.k c.loop-k.invariant c.mark.ensures c.requires.some

pub returns : goal.returns
returns c =
    let all : c.loop-k.k ≡ c.args.area.rows = omega (arith, c.loop-k-test.false, c.loop-k.auto.k-end) in
    subst (λ (n : ℕ). MarksArea c.args.marks.now c.loop-k.marks (top_rows c.args.area n)) all c.loop-k.invariant
