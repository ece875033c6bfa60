use Rattle.std.proofs.Common.{refl}
use Rattle.cur_steps.specs.Beliefs.{Agrees}
use Rattle.cur_paint.specs.Limits.{paint_limit, renewal_limit}
use Rattle.cur_paint.proofs.Bounds.{most}
use Rattle.cur_paint.proofs.ModeFacts.{sets_wider}
use Rattle.cur_paint.proofs.painters.Painter.paint_moved.Goals as goal

pub returns-in-Some : goal.returns-in-Some
returns-in-Some g c =
    let t = g.C.Certificate.table c.args.self.now.screens.now.checked.now in
    let old = g.P.Picture.cells c.args.old.now in
    let new = g.N.Picture.cells c.args.self.now.screens.now.new.now in
    let b = c.args.self.now.pen.now.belief in
    let w = c.args.wanted in
    let z = c.scroll_last.new.self in
    let x = c.scroll_last.ensures.ends in
    record {
      ends = record {
        step = sets_wider g.W.Wire.went g.W.Wire.failures c.args.self.now.pen.now.wire z.pen.now.wire c.scroll_last.result t (paint_limit t old new b w.cursor w.mode) (renewal_limit t old new) b.mode w.cursor w.mode
            (Agrees t old b) (Agrees t new z.pen.now.belief) (most t old new b w.cursor w.mode) x.step;
        set = x.set;
        same = record { screens = refl; pen = refl };
      };
    }

pub returns-in-None : goal.returns-in-None
returns-in-None g c =
    record { ends = record { step = c.paint.ensures.ends.step; set = c.paint.ensures.ends.set; same = record { screens = refl; pen = refl } } }
