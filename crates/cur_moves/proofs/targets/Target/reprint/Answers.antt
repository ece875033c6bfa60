use Rattle.std.proofs.Common.{◌≡◌, ◌+◌, ℕ, Ok, sym, ap, ◌∙◌, arith}
use Rattle.std.proofs.lemmas.Result.{err_from_is_err_and}
use Rattle.cur_steps.proofs.Stops.{steps_fail, steps_next, steps_none, steps_wider}
use Rattle.ti_conforms.specs.Certified.{IsLost}
use Rattle.cur_steps.specs.Pieces.{IsPaint}
use Rattle.cur_steps.specs.Inks.{put_at}
use Rattle.cur_steps.specs.Beliefs.{Agrees}
use Rattle.cur_steps.specs.declared.beliefs.Belief.{Belief}
use Rattle.cur_steps.specs.declared.beliefs.Place.{Place}
use Rattle.cur_steps.proofs.Actions.{agrees_lost}
use Rattle.cur_moves.proofs.Gaps.{reprinted}
use Rattle.cur_moves.proofs.targets.Target.reprint.Goals as goal

pub loop-n-init : goal.loop-n-init
loop-n-init g c =
    let t = g.C.Certificate.table c.args.self.now.checked.now in
    let b : Belief = c.args.pen.now.belief in
    let here : c.args.from.col ≡ c.args.from.col + 0 = omega arith in
    record {
      belief = ap (λ (o : Place). record b { place = o }) (c.requires.place ∙ ap (λ (n : ℕ). record c.args.from { col = n }) here);
      step = λ h k. steps_none g.W.Wire.went g.W.Wire.failures g.met.W.Wire.lawful c.args.pen.now.wire tt (IsPaint t) _ (IsLost t) (Agrees t h b) (λ s x. x.ready.rest) (agrees_lost t c.requires.checked h b);
    }

pub loop-n-preserved : goal.loop-n-preserved
loop-n-preserved g c =
    let t = g.C.Certificate.table c.args.self.now.checked.now in
    let b : Belief = c.args.pen.now.belief in
    let a : Belief = c.loop-n.pen.belief in
    let z : Belief = c.print_at.new.self.belief in
    let row = c.args.from.row in
    let col = c.args.from.col + c.loop-n.n in
    let n = c.loop-n.n in
    let next : col + 1 ≡ c.args.from.col + (n + 1) = omega arith in
    record {
      belief = c.print_at.ensures.belief ∙ ap (λ (x : Belief). record x { place = record { row = row; col = col + 1 } }) c.loop-n.invariant.belief ∙ ap (λ (m : ℕ). record b { place = record { row = row; col = m } }) next;
      step = λ h k. steps_next g.W.Wire.went g.W.Wire.failures g.met.W.Wire.lawful c.args.pen.now.wire c.loop-n.pen.wire c.print_at.new.self.wire _ (Ok tt) (IsPaint t) n 1 (n + 1) (IsLost t) (Agrees t h b) (Agrees t h a) (Agrees t h z) (omega arith)
          (c.loop-n.invariant.step h k)
          (steps_wider g.W.Wire.went g.W.Wire.failures c.loop-n.pen.wire c.print_at.new.self.wire _ (IsPaint t) 1 1 (IsLost t) (Agrees t h a) (Agrees t (put_at row col c.at-ink.result h) z) (Agrees t h a) (Agrees t h z) (omega arith) (λ s x. x)
          (reprinted t h z row col c.at-ink.result (k col (omega (arith, c.loop-n-test.true)) ∙ sym c.at-ink.ensures.value)) (c.in_ok-print_at.ensures.step h));
    }

pub returns-in_err-print_at-clause-step : goal.returns-in_err-print_at-clause-step
returns-in_err-print_at-clause-step g c h k =
    let e = err_from_is_err_and c.from_residual.result c.from_residual.ensures.1 in
    let t = g.C.Certificate.table c.args.self.now.checked.now in
    let b : Belief = c.args.pen.now.belief in
    let a : Belief = c.loop-n.pen.belief in
    let z : Belief = c.print_at.new.self.belief in
    let n = c.loop-n.n in
    let more = put_at c.args.from.row (c.args.from.col + n) c.at-ink.result h in
    rw e.1 (steps_fail g.W.Wire.went g.W.Wire.failures c.args.pen.now.wire c.print_at.new.self.wire _ _ (IsPaint t) (n + 1) c.args.count (IsLost t) (Agrees t h b) (Agrees t more z) (Agrees t h z) (omega (arith, c.loop-n-test.true))
    (steps_next g.W.Wire.went g.W.Wire.failures g.met.W.Wire.lawful c.args.pen.now.wire c.loop-n.pen.wire c.print_at.new.self.wire _ _ (IsPaint t) n 1 (n + 1) (IsLost t) (Agrees t h b) (Agrees t h a) (Agrees t more z) (omega arith)
    (c.loop-n.invariant.step h k) (c.in_err-print_at.ensures.step h)))
