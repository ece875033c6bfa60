use Rattle.std.proofs.Common.{◌+◌, ◌<◌, ◌≤◌, arith}
use Rattle.cur_moves.specs.Scrolls.{shifted}
use Rattle.cur_paint.specs.Differ.{all_differ}
use Rattle.cur_paint.proofs.LineRanges.{region_saves}
use Rattle.cur_paint.proofs.screens.Screens.useful.Goals as goal

pub returns-then-before-most : goal.returns-then-before-most
returns-then-before-most g c =
    let t = g.C.Certificate.table c.args.self.now.checked.now in
    let old = g.O.Picture.cells c.args.self.now.old.now in
    let new = g.N.Picture.cells c.args.self.now.new.now in
    let x = c.args.scroll in
    let can = c.can_scroll.ensures.yes c.if-not-can_scroll.false in
    let lines = c.region-lines.result in
    let below : x.bottom < c.rows.result = omega (arith, can.bottom, c.rows.ensures.value) in
    let last = c.region-lines.ensures.last below in
    let width = c.columns_in-width.result in
    let before = c.count_lines-before.result in
    let saves : width + (x.count + 4) ≤ before = omega (arith, c.if-before-most.true, c.from.ensures) in
    record {
      useful = record {
        can = can;
        saves = region_saves x old new t.cols lines.from lines.end t.rows width before (x.count + 4) can.region can.bottom c.region-lines.ensures.from last c.columns_in-width.ensures.most c.count_lines-before.ensures.within saves;
      };
    }

pub returns-then-before-left : goal.returns-then-before-left
returns-then-before-left g c =
    let t = g.C.Certificate.table c.args.self.now.checked.now in
    let old = g.O.Picture.cells c.args.self.now.old.now in
    let new = g.N.Picture.cells c.args.self.now.new.now in
    let x = c.args.scroll in
    let can = c.can_scroll.ensures.yes c.if-not-can_scroll.false in
    let lines = c.region-lines.result in
    let below : x.bottom < c.rows.result = omega (arith, can.bottom, c.rows.ensures.value) in
    let last = c.region-lines.ensures.last below in
    let left = c.count_lines-left.result in
    let before = c.count_lines-before.result in
    let value = c.count_lines-left.ensures.value c.count_lines-left.ensures.few in
    let after : all_differ (shifted x old) new t.cols lines.end ≤ all_differ (shifted x old) new t.cols lines.from + left = omega (arith, value) in
    let saves : left + (x.count + 4) ≤ before = omega (arith, c.if-before-left.true, c.from.ensures) in
    record {
      useful = record {
        can = can;
        saves = region_saves x old new t.cols lines.from lines.end t.rows left before (x.count + 4) can.region can.bottom c.region-lines.ensures.from last after c.count_lines-before.ensures.within saves;
      };
    }
