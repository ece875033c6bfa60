use Rattle.std.proofs.Common.{◌≡◌, ◌+◌, ◌*◌, ◌∙◌, ℕ, arith, ap}
use Rattle.std.proofs.lemmas.Result.{err_from_is_err_and}
use Rattle.cur_steps.proofs.Stops.{steps_fail, steps_next, steps_wider}
use Rattle.ti_conforms.specs.Certified.{IsLost}
use Rattle.cur_steps.specs.Pieces.{IsPaint}
use Rattle.cur_steps.specs.Inks.{plain_brush}
use Rattle.cur_steps.specs.Beliefs.{Agrees, moves}
use Rattle.cur_steps.specs.declared.beliefs.Belief.{Belief}
use Rattle.cur_moves.specs.Scrolls.{edge, shifted}
use Rattle.cur_moves.specs.Frames.{Framed, at_edge}
use Rattle.cur_moves.proofs.FrameFacts.{move_enough, screen_entered, screen_left}
use Rattle.cur_moves.proofs.regions.scroll_screen.Goals as goal

pub returns-in_err-reach-clause-step : goal.returns-in_err-reach-clause-step
returns-in_err-reach-clause-step g c h =
    let e = err_from_is_err_and c.from_residual.result c.from_residual.ensures.1 in
    let t = g.C.Certificate.table c.args.checked.now in
    let x = c.args.scroll in
    let b : Belief = c.args.pen.now.belief in
    let a : Belief = c.reach.new.pen.belief in
    let k : ℕ = moves b.place c.edge.result 0 * t.longest.cup in
    rw e.1 (steps_fail g.W.Wire.went g.W.Wire.failures c.args.pen.now.wire c.reach.new.pen.wire _ _ (IsPaint t) k (t.longest.cup + x.count * t.longest.scroll) (IsLost t)
    (Agrees t h b) (Agrees t h a) (Agrees t (shifted x h) a) (omega (arith, move_enough b.place c.edge.result 0 t.longest.cup (x.count * t.longest.scroll)))
    (c.in_err-reach.ensures.step h (λ k lt. absurd (omega (arith, lt)))))

pub returns-clause-step : goal.returns-clause-step
returns-clause-step g c h =
    let t = g.C.Certificate.table c.args.checked.now in
    let x = c.args.scroll in
    let b : Belief = c.args.pen.now.belief in
    let a : Belief = c.reach.new.pen.belief in
    let n : ℕ = x.count * t.longest.scroll in
    let k : ℕ = moves b.place c.edge.result 0 * t.longest.cup in
    let plain : a.brush ≡ plain_brush = ap (λ (y : Belief). y.brush) c.in_ok-reach.ensures.belief ∙ c.requires.plain in
    let at : a.place ≡ record { row = edge x; col = 0 } = ap (λ (y : Belief). y.place) c.in_ok-reach.ensures.belief ∙ ap (λ (r : ℕ). record { row = r; col = 0 }) c.edge.ensures in
    steps_next g.W.Wire.went g.W.Wire.failures g.met.W.Wire.lawful c.args.pen.now.wire c.reach.new.pen.wire c.scroll_at_edge.new.wire _ c.scroll_at_edge.result (IsPaint t) k n (t.longest.cup + n) (IsLost t)
    (Agrees t h b) (Agrees t h a) (Agrees t (shifted x h) a) (move_enough b.place c.edge.result 0 t.longest.cup n) (c.in_ok-reach.ensures.step h (λ k lt. absurd (omega (arith, lt))))
    (steps_wider g.W.Wire.went g.W.Wire.failures c.reach.new.pen.wire c.scroll_at_edge.new.wire c.scroll_at_edge.result (IsPaint t) n n (IsLost t) (Framed t (at_edge x h) a) (Framed t (at_edge x (shifted x h)) a) (Agrees t h a) (Agrees t (shifted x h) a)
    (omega arith) (screen_entered t x.top x.bottom h a (edge x) c.requires.top c.requires.bottom plain at) (screen_left t x.top x.bottom (shifted x h) a (edge x) (omega (arith, c.requires.checked.size)) c.requires.top c.requires.bottom plain at) (c.scroll_at_edge.ensures.step h a))
