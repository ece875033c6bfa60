use Rattle.std.proofs.Common.{◌≡◌, ◌+◌, ◌-◌, ◌*◌, ◌∙◌, ℕ, None, arith}
use Rattle.std.proofs.lemmas.Result.{err_from_is_err_and}
use Rattle.cur_steps.proofs.Stops.{steps_fail, steps_next, steps_wider}
use Rattle.ti_conforms.specs.Certified.{IsLost, cell_limit}
use Rattle.cur_steps.specs.Pieces.{IsPaint}
use Rattle.cur_steps.specs.Inks.{plain_brush}
use Rattle.cur_steps.specs.Beliefs.{Agrees, brush_limit}
use Rattle.cur_steps.specs.declared.beliefs.Belief.{Belief}
use Rattle.cur_steps.specs.declared.beliefs.Place.{Place}
use Rattle.cur_moves.specs.Scrolls.{shifted}
use Rattle.cur_moves.specs.Frames.{Frame, Framed, whole}
use Rattle.cur_moves.proofs.FrameFacts.{entered, left, screen_enough, scroll_enough}
use Rattle.cur_moves.proofs.regions.scroll_lines.Goals as goal

pub returns-in_err-brush_as-clause-step : goal.returns-in_err-brush_as-clause-step
returns-in_err-brush_as-clause-step g c h =
    let e = err_from_is_err_and c.from_residual.result c.from_residual.ensures.1 in
    let t = g.C.Certificate.table c.args.checked.now in
    let b : Belief = c.args.pen.now.belief in
    let a : Belief = c.brush_as.new.pen.belief in
    rw e.1 (steps_fail g.W.Wire.went g.W.Wire.failures c.args.pen.now.wire c.brush_as.new.pen.wire _ _ (IsPaint t) (brush_limit t) ((c.args.scroll.count + 4) * cell_limit t) (IsLost t)
    (Agrees t h b) (Agrees t h a) (Agrees t (shifted c.args.scroll h) a) (omega (arith, scroll_enough t c.args.scroll.count)) (c.in_err-brush_as.ensures.step h))

pub returns-clause-step : goal.returns-clause-step
returns-clause-step g c h =
    let t = g.C.Certificate.table c.args.checked.now in
    let b : Belief = c.args.pen.now.belief in
    let a : Belief = c.brush_as.new.pen.belief in
    let x = c.args.scroll in
    let row : ℕ = c.args.to.row in
    let col : ℕ = c.args.to.col in
    let p : Place = record { row = row; col = col } in
    let z : Belief = record a { place = p } in
    let f : Frame = record { top = 0; bottom = t.rows - 1; cells = h; place = None } in
    let plain : a.brush ≡ plain_brush = c.in_ok-brush_as.ensures.brush ∙ c.plain.ensures.value in
    let n : ℕ = (x.count + 2) * t.longest.scroll + 2 * t.longest.cup in
    steps_next g.W.Wire.went g.W.Wire.failures g.met.W.Wire.lawful c.args.pen.now.wire c.brush_as.new.pen.wire c.scroll_region.new.wire _ c.scroll_region.result (IsPaint t) (brush_limit t) n ((x.count + 4) * cell_limit t) (IsLost t)
    (Agrees t h b) (Agrees t h a) (Agrees t (shifted x h) z) (scroll_enough t x.count) (c.in_ok-brush_as.ensures.step h)
    (steps_wider g.W.Wire.went g.W.Wire.failures c.brush_as.new.pen.wire c.scroll_region.new.wire c.scroll_region.result (IsPaint t) n n (IsLost t) (Framed t f z) (Framed t (whole t (shifted x h) row col) z) (Agrees t h a) (Agrees t (shifted x h) z)
    (omega arith) (entered t h a p plain) (left t (shifted x h) a row col (omega (arith, c.rows-rows.ensures.checked.size)) plain) (c.scroll_region.ensures.step f z))

pub returns-then-is_whole-clause-step : goal.returns-then-is_whole-clause-step
returns-then-is_whole-clause-step g c h =
    let t = g.C.Certificate.table c.args.checked.now in
    let b : Belief = c.args.pen.now.belief in
    let a : Belief = c.brush_as.new.pen.belief in
    let x = c.args.scroll in
    steps_next g.W.Wire.went g.W.Wire.failures g.met.W.Wire.lawful c.args.pen.now.wire c.brush_as.new.pen.wire c.scroll_screen.new.pen.wire _ c.scroll_screen.result (IsPaint t) (brush_limit t) (t.longest.cup + x.count * t.longest.scroll)
    ((x.count + 4) * cell_limit t) (IsLost t) (Agrees t h b) (Agrees t h a) (Agrees t (shifted x h) c.scroll_screen.new.pen.belief) (screen_enough t x.count) (c.in_ok-brush_as.ensures.step h) (c.scroll_screen.ensures.step h)
