use Rattle.std.proofs.Common.{inr}
use Rattle.cur_screens.proofs.touched.touch_grid.Goals as goal
use Rattle.cur_screens.proofs.touched.touch_grid.Goals.{else-window-via-then-window+else-window-2, else-window-via-else-window}

pub returns-else-window : goal.returns-else-window
returns-else-window c = record {
  kept = c.mark_lines.ensures.kept;
  lines = c.mark_lines.ensures.lines;
  all = λ may i j u. elim c.else-window.branch [ else-window-via-then-window+else-window-2 w ↦ w.if-window-2.false may.1 | else-window-via-else-window w ↦ absurd (let off = w.if-window.false in let on = may.0 in cc) ];
  only = λ i j u off. c.mark_lines.ensures.only i j u (λ gone. off (inr gone));
}
