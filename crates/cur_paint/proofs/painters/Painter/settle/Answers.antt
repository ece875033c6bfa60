use Rattle.std.proofs.Common.{◌*◌, refl, arith}
use Rattle.std.proofs.lemmas.Result.{err_from_is_err_and}
use Rattle.cur_steps.specs.Beliefs.{Agrees, changes, modes_limit}
use Rattle.cur_steps.proofs.Answers.{at_most, changes_few}
use Rattle.cur_paint.specs.Limits.{cursor_limit}
use Rattle.cur_paint.specs.Modes.{move_limit}
use Rattle.cur_paint.proofs.ModeFacts.{move_short, sets_last, sets_unfinished}
use Rattle.cur_paint.proofs.Settling.{ends_after, ends_cut, now_set}
use Rattle.cur_paint.proofs.painters.Painter.settle.Goals as goal

pub returns-in_err-rest : goal.returns-in_err-rest
returns-in_err-rest g c =
    let e = err_from_is_err_and c.from_residual.result c.from_residual.ensures.1 in
    let new = g.N.Picture.cells c.args.self.now.screens.now.new.now in
    rw e.1 (record { ends = ends_cut new (c.in_err-rest.ensures.step new) c.in_err-rest.ensures.same (omega arith) })

pub returns-in_err-show_as : goal.returns-in_err-show_as
returns-in_err-show_as g c =
    let e = err_from_is_err_and c.from_residual-in_err-show_as.result c.from_residual-in_err-show_as.ensures.1 in
    let new = g.N.Picture.cells c.args.self.now.screens.now.new.now in
    let p = c.rest.new.self in
    let t = g.C.Certificate.table p.screens.now.checked.now in
    let h = g.N.Picture.cells p.screens.now.new.now in
    let b = p.pen.now.belief in
    let w = c.args.wanted in
    let few = at_most (changes b.mode w.mode) (modes_limit t) (changes_few b.mode w.mode) in
    rw e.1 (record {
      ends = ends_after {k = λ s. cursor_limit s.table} {g = λ s. s.new} g.met.W.Wire.lawful (c.in_ok-rest.ensures.step new) c.in_ok-rest.ensures.mode c.in_ok-rest.ensures.same (record {
        step = sets_unfinished g.W.Wire.went g.W.Wire.failures p.pen.now.wire c.show_as.new.self.wire _ _ t (changes b.mode w.mode * modes_limit t) (cursor_limit t) b.mode w.cursor w.mode
            (Agrees t h b) (Agrees t h c.show_as.new.self.belief) (Agrees t h c.show_as.new.self.belief) (omega (arith, few)) (c.in_err-show_as.ensures.step h);
        set = tt;
        same = record { screens = refl; pen = refl };
      }) (omega arith);
    })

pub returns : goal.returns
returns g c =
    let new = g.N.Picture.cells c.args.self.now.screens.now.new.now in
    let p = c.rest.new.self in
    let t = g.C.Certificate.table p.screens.now.checked.now in
    let h = g.N.Picture.cells p.screens.now.new.now in
    let b = p.pen.now.belief in
    let d = c.show_as.new.self.belief in
    let z = c.place_cursor.new.self in
    let w = c.args.wanted in
    let few = at_most (changes b.mode w.mode) (modes_limit t) (changes_few b.mode w.mode) in
    record {
      ends = ends_after {k = λ s. cursor_limit s.table} {g = λ s. s.new} g.met.W.Wire.lawful (c.in_ok-rest.ensures.step new) c.in_ok-rest.ensures.mode c.in_ok-rest.ensures.same (record {
        step = sets_last g.W.Wire.went g.W.Wire.failures g.met.W.Wire.lawful p.pen.now.wire c.show_as.new.self.wire z.pen.now.wire _ c.place_cursor.result t
            (changes b.mode w.mode * modes_limit t) (move_limit t w.cursor) (cursor_limit t) b.mode w.cursor w.mode
            (Agrees t h b) (Agrees t h d) (Agrees t h z.pen.now.belief) (omega (arith, few, move_short t w.cursor))
            (omega arith) (c.in_ok-show_as.ensures.step h) c.place_cursor.ensures.step;
        set = now_set c.place_cursor.result w b d z.pen.now.belief c.in_ok-rest.ensures.rested c.in_ok-show_as.ensures.belief c.place_cursor.ensures.at c.place_cursor.ensures.belief;
        same = record { screens = c.place_cursor.ensures.same.screens; pen = c.place_cursor.ensures.same.pen };
      }) (omega arith);
    }
