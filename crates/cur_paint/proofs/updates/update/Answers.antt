use Rattle.std.proofs.Common.{refl}
use Rattle.std.proofs.lemmas.Result.{err_from_is_err_and}
use Rattle.cur_paint.proofs.UpdateFacts.{refreshed, cut_short}
use Rattle.cur_paint.proofs.updates.update.Goals as goal

pub returns-in_err-draw_whole : goal.returns-in_err-draw_whole
returns-in_err-draw_whole g c =
    let e = err_from_is_err_and c.from_residual.result c.from_residual.ensures.1 in
    let made = rw c.rested-belief.ensures.value at c.in_err-draw_whole.ensures.made in
    rw e.1 (record {
      refreshes = cut_short g.W.Wire.went g.W.Wire.failures c.args.wire.now c.draw_whole.new.wire _ (g.C.Certificate.table c.args.screens.now.checked.now) (g.O.Picture.cells c.args.screens.now.old.now) (g.N.Picture.cells c.args.screens.now.new.now) c.args.wanted c.args.session.now _ c.draw_whole.new.belief
          c.requires.cursor refl made;
    })

pub returns : goal.returns
returns g c =
    let made = rw c.rested-belief.ensures.value at c.in_ok-draw_whole.ensures.made in
    rw c.cursor_of-session.ensures.value (record {
      refreshes = refreshed g.W.Wire.went g.W.Wire.failures c.args.wire.now c.draw_whole.new.wire _ (g.C.Certificate.table c.args.screens.now.checked.now) (g.O.Picture.cells c.args.screens.now.old.now) (g.N.Picture.cells c.args.screens.now.new.now) c.args.wanted c.args.session.now c.draw_whole.new.belief
          c.requires.cursor made;
    })
