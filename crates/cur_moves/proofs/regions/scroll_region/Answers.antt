use Rattle.std.proofs.Common.{◌+◌, ◌*◌, ◌≤◌, ℕ, arith}
use Rattle.std.proofs.lemmas.Result.{err_from_is_err_and}
use Rattle.cur_steps.proofs.Stops.{steps_fail, steps_three, steps_two_fail}
use Rattle.ti_conforms.specs.Certified.{IsLost}
use Rattle.cur_steps.specs.Pieces.{IsPaint}
use Rattle.cur_moves.specs.Scrolls.{shifted}
use Rattle.cur_moves.specs.Frames.{Framed, at_edge, framed, whole}
use Rattle.cur_moves.proofs.FrameFacts.{region_enough}
use Rattle.cur_moves.proofs.regions.scroll_region.Goals as goal

pub returns-in_err-set_frame : goal.returns-in_err-set_frame
returns-in_err-set_frame g c =
    let e = err_from_is_err_and c.from_residual.result c.from_residual.ensures.1 in
    let t = g.C.Certificate.table c.args.checked.now in
    let x = c.args.scroll in
    let k : ℕ = t.longest.scroll + t.longest.cup in
    let n : ℕ = (x.count + 2) * t.longest.scroll + 2 * t.longest.cup in
    let enough : k + x.count * t.longest.scroll + k ≤ n = region_enough x.count t.longest.scroll t.longest.cup in
    record {
      step = λ f b. rw e.1 (steps_fail g.W.Wire.went g.W.Wire.failures c.args.wire.now c.set_frame.new.wire _ _ (IsPaint t) k n (IsLost t)
          (Framed t f b) (Framed t (framed x.top x.bottom f.cells c.edge.result) b) (Framed t (whole t (shifted x f.cells) c.args.to.row c.args.to.col) b) (omega (arith, enough)) (c.in_err-set_frame.ensures.step f b));
    }

pub returns-in_err-scroll_at_edge : goal.returns-in_err-scroll_at_edge
returns-in_err-scroll_at_edge g c = record {
  step = λ f b. (
      let e = err_from_is_err_and c.from_residual-in_err-scroll_at_edge.result c.from_residual-in_err-scroll_at_edge.ensures.1 in
      let t = g.C.Certificate.table c.args.checked.now in
      let x = c.args.scroll in
      let k : ℕ = t.longest.scroll + t.longest.cup in
      let m : ℕ = x.count * t.longest.scroll in
      let n : ℕ = (x.count + 2) * t.longest.scroll + 2 * t.longest.cup in
      let enough : k + m + k ≤ n = region_enough x.count t.longest.scroll t.longest.cup in
      rw e.1 (steps_two_fail g.W.Wire.went g.W.Wire.failures g.met.W.Wire.lawful c.args.wire.now c.set_frame.new.wire c.scroll_at_edge.new.wire _ _ _ (IsPaint t) k m n (IsLost t)
      (Framed t f b) (Framed t (at_edge x f.cells) b) (Framed t (at_edge x (shifted x f.cells)) b) (Framed t (whole t (shifted x f.cells) c.args.to.row c.args.to.col) b) (omega (arith, enough))
      (rw (c.edge.ensures) at c.in_ok-set_frame.ensures.step f b) (c.in_err-scroll_at_edge.ensures.step f.cells b)));
}

pub returns : goal.returns
returns g c = record {
  step = λ f b. (
      let t = g.C.Certificate.table c.args.checked.now in
      let x = c.args.scroll in
      let k : ℕ = t.longest.scroll + t.longest.cup in
      let m : ℕ = x.count * t.longest.scroll in
      let n : ℕ = (x.count + 2) * t.longest.scroll + 2 * t.longest.cup in
      steps_three g.W.Wire.went g.W.Wire.failures g.met.W.Wire.lawful c.args.wire.now c.set_frame.new.wire c.scroll_at_edge.new.wire c.set_frame-2.new.wire _ _ c.set_frame-2.result (IsPaint t) k m k n (IsLost t)
      (Framed t f b) (Framed t (at_edge x f.cells) b) (Framed t (at_edge x (shifted x f.cells)) b) (Framed t (whole t (shifted x f.cells) c.args.to.row c.args.to.col) b) (region_enough x.count t.longest.scroll t.longest.cup)
      (rw (c.edge.ensures) at c.in_ok-set_frame.ensures.step f b) (c.in_ok-scroll_at_edge.ensures.step f.cells b) (rw (c.rows.ensures.value) at c.set_frame-2.ensures.step (at_edge x (shifted x f.cells)) b));
}
