-- The lines visited so far are marked.
use Rattle.grids.proofs.Rectangles.{top_rows}
use Rattle.cur_screens.specs.Touched.{MarksArea}
use Rattle.cur_screens.proofs.touched.mark_area.Given as goal

abbrev pub invariant-loop-k : goal.invariant-loop-k
invariant-loop-k l = MarksArea l.fn.marks l.marks (top_rows l.area l.k)
