use Rattle.std.proofs.Common.{◌+◌, ◌≤◌, ◌*◌}
use Rattle.cur_paint.specs.Scenes.{Scene, changed_above, scene}
use Rattle.cur_paint.proofs.screens.Screens.columns_in.Given as goal

abbrev pub invariant-loop-row : goal.invariant-loop-row
invariant-loop-row g l =
    let s : Scene = scene g.C.Certificate.table g.O.Picture.cells g.N.Picture.cells l.self in
    record {
      most : changed_above s l.row ≤ changed_above s l.fn.lines.from + l.count;
      few : l.count ≤ l.row * 1000;
    }
