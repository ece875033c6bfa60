use Rattle.std.proofs.Common.{◌≡◌, ◌+◌, ◌≤◌, ◌*◌}
use Rattle.cur_paint.specs.Scenes.{Scene, changed_above, scene}
use Rattle.cur_paint.proofs.screens.Screens.count_lines.Given as goal

abbrev pub invariant-loop-row : goal.invariant-loop-row
invariant-loop-row g l =
    let s : Scene = scene g.C.Certificate.table g.O.Picture.cells g.N.Picture.cells l.self in
    record {
      count : changed_above s l.fn.lines.from + l.count ≡ changed_above s l.row;
      few : l.count ≤ l.row * 1000;
    }
