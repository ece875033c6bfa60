use Rattle.std.proofs.Common.{◌+◌, None, arith, refl}
use Rattle.std.proofs.lemmas.Result.{err_from_is_err_and}
use Rattle.cur_steps.proofs.Stops.{steps_fail, steps_next}
use Rattle.ti_conforms.specs.Certified.{IsLost}
use Rattle.cur_steps.specs.Pieces.{IsPaint}
use Rattle.cur_moves.specs.Frames.{Frame, Framed, framed_at}
use Rattle.cur_moves.proofs.FrameFacts.{margins_set, moved_in}
use Rattle.cur_moves.proofs.frames.set_frame.Goals as goal

pub returns-in_err-send_row : goal.returns-in_err-send_row
returns-in_err-send_row g c = record {
  step = λ f b. (
      let e = err_from_is_err_and c.from_residual.result c.from_residual.ensures.1 in
      let t = g.C.Certificate.table c.args.checked.now in
      let m : Frame = record { top = c.args.top; bottom = c.args.bottom; cells = f.cells; place = None } in
      rw e.1 (steps_fail g.W.Wire.went g.W.Wire.failures c.args.wire.now c.send_row.new.wire _ _ (IsPaint t) t.longest.scroll (t.longest.scroll + t.longest.cup) (IsLost t)
      (Framed t f b) (Framed t m b) (Framed t (framed_at c.args.top c.args.bottom f.cells c.args.row c.args.col) b) (omega arith)
      (c.in_err-send_row.ensures.step t.longest.scroll f m b refl (omega arith) (margins_set t f b c.args.top c.args.bottom))));
}

pub returns : goal.returns
returns g c = record {
  step = λ f b. (
      let t = g.C.Certificate.table c.args.checked.now in
      let m : Frame = record { top = c.args.top; bottom = c.args.bottom; cells = f.cells; place = None } in
      let z : Frame = framed_at c.args.top c.args.bottom f.cells c.args.row c.args.col in
      steps_next g.W.Wire.went g.W.Wire.failures g.met.W.Wire.lawful c.args.wire.now c.send_row.new.wire c.send_row-2.new.wire _ c.send_row-2.result (IsPaint t) t.longest.scroll t.longest.cup (t.longest.scroll + t.longest.cup) (IsLost t)
      (Framed t f b) (Framed t m b) (Framed t z b) (omega arith)
      (c.in_ok-send_row.ensures.step t.longest.scroll f m b refl (omega arith) (margins_set t f b c.args.top c.args.bottom))
      (c.send_row-2.ensures.step t.longest.cup m z b refl (omega arith) (moved_in t m b c.args.row c.args.col c.requires.col)));
}
