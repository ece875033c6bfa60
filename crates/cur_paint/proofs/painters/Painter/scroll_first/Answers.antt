use Rattle.std.proofs.Common.{◌+◌, ◌*◌, ◌≤◌, ℕ, Option, refl, arith, subst}
use Rattle.std.proofs.lemmas.Result.{err_from_is_err_and}
use Rattle.ti_conforms.specs.Certified.{cell_limit}
use Rattle.cur_steps.specs.Beliefs.{Agrees}
use Rattle.cur_steps.specs.declared.beliefs.Belief.{Belief}
use Rattle.cur_steps.specs.declared.beliefs.Mode.{Mode}
use Rattle.cur_steps.specs.declared.inks.Ink.{Ink}
use Rattle.cur_moves.specs.Scrolls.{shifted}
use Rattle.cur_paint.specs.Limits.{paint_limit, renewal_limit}
use Rattle.cur_paint.specs.Scenes.{Sets}
use Rattle.cur_paint.proofs.Bounds.{scrolled_enough}
use Rattle.cur_paint.proofs.ModeFacts.{sets_after}
use Rattle.cur_paint.proofs.Settling.{ends_cut}
use Rattle.cur_paint.proofs.painters.Painter.scroll_first.Goals as goal

pub returns-in_err-scroll_lines : goal.returns-in_err-scroll_lines
returns-in_err-scroll_lines g c =
    let e = err_from_is_err_and c.from_residual.result c.from_residual.ensures.1 in
    let t = g.C.Certificate.table c.args.self.now.screens.now.checked.now in
    let old = g.O.Picture.cells c.args.self.now.screens.now.old.now in
    let new = g.N.Picture.cells c.args.self.now.screens.now.new.now in
    let b : Belief = c.args.self.now.pen.now.belief in
    let w = c.args.wanted in
    let k : ℕ = c.args.scroll.count + 4 in
    let enough : k * cell_limit t + renewal_limit t (shifted c.args.scroll old) new ≤ paint_limit t old new b w.cursor w.mode =
    scrolled_enough t k (shifted c.args.scroll old) old new b w.cursor w.mode (omega arith) c.requires.useful.saves in
    rw e.1 (record { ends = ends_cut (shifted c.args.scroll old) (c.in_err-scroll_lines.ensures.step old) (record { screens = refl; pen = refl }) (omega (arith, enough)) })

pub returns : goal.returns
returns g c =
    let t = g.C.Certificate.table c.args.self.now.screens.now.checked.now in
    let old = g.O.Picture.cells c.args.self.now.screens.now.old.now in
    let new = g.N.Picture.cells c.args.self.now.screens.now.new.now in
    let b : Belief = c.args.self.now.pen.now.belief in
    let w = c.args.wanted in
    let moved : ℕ → ℕ → Ink = shifted c.args.scroll old in
    let a : Belief = c.scroll_lines.new.pen.belief in
    let z = c.paint_moved.new.self in
    let x = c.paint_moved.ensures.ends.same in
    let k : ℕ = c.args.scroll.count + 4 in
    let P : Option Mode → Type 0 = λ o. Sets g.W.Wire.went g.W.Wire.failures c.scroll_lines.new.pen.wire z.pen.now.wire c.paint_moved.result t (renewal_limit t moved new) o w.cursor w.mode (Agrees t moved a) (Agrees t new z.pen.now.belief) in
    record {
      ends = record {
        step = sets_after g.W.Wire.went g.W.Wire.failures g.met.W.Wire.lawful c.args.self.now.pen.now.wire c.scroll_lines.new.pen.wire z.pen.now.wire _ c.paint_moved.result t
            (k * cell_limit t) (renewal_limit t moved new) (paint_limit t old new b w.cursor w.mode) b.mode w.cursor w.mode
            (Agrees t old b) (Agrees t moved a) (Agrees t new z.pen.now.belief)
            (scrolled_enough t k moved old new b w.cursor w.mode (omega arith) c.requires.useful.saves) (c.in_ok-scroll_lines.ensures.step old) (subst P c.in_ok-scroll_lines.ensures.mode c.paint_moved.ensures.ends.step);
        set = c.paint_moved.ensures.ends.set;
        same = record { screens = x.screens; pen = x.pen };
      };
    }
