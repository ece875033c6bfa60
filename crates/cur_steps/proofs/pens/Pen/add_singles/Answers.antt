use Rattle.std.proofs.Common.{◌+◌, take, Ok, refl, ap, ◌∙◌, arith}
use Rattle.std.proofs.lemmas.Result.{err_from_is_err_and}
use Rattle.cur_steps.proofs.Stops.{steps_fail, steps_next}
use Rattle.ti_conforms.specs.Certified.{IsLost, lengths}
use Rattle.cur_steps.specs.Pieces.{IsPaint}
use Rattle.cur_steps.specs.Beliefs.{Agrees, Belief}
use Rattle.cur_steps.proofs.Actions.{acts_nothing}
use Rattle.cur_steps.proofs.SingleFacts.{ahead_more, lengths_more, lengths_within}
use Rattle.cur_steps.proofs.pens.Pen.add_singles.Goals as goal

pub loop-row-init : goal.loop-row-init
loop-row-init g c =
    let t = g.C.Certificate.table c.args.checked.now in
    let b = c.args.self.now.belief in
    record {
      set = c.requires.set;
      ahead = refl;
      step = λ h. acts_nothing g.W.Wire.went g.W.Wire.failures g.met.W.Wire.lawful c.args.self.now.wire t c.requires.checked _ h h b b (λ s x. x);
    }

pub loop-row-preserved : goal.loop-row-preserved
loop-row-preserved g c =
    let t = g.C.Certificate.table c.args.checked.now in
    let b = c.args.self.now.belief in
    let rows = c.args.rows.now in
    let n = c.loop-row.row-index in
    record {
      set = ap (λ (x : Belief). x.graphic) c.add_single.ensures.belief ∙ c.loop-row.invariant.set;
      ahead = ahead_more c.args.wanted rows n _ b c.loop-row.self.belief c.add_single.new.self.belief c.loop-row-test.true c.add_single.ensures.belief c.loop-row.invariant.ahead;
      step = λ h. steps_next g.W.Wire.went g.W.Wire.failures g.met.W.Wire.lawful c.args.self.now.wire c.loop-row.self.wire c.add_single.new.self.wire _ (Ok tt) (IsPaint t) (lengths t (take n rows)) _ (lengths t (take (n + 1) rows)) (IsLost t)
          (Agrees t h b) (Agrees t h c.loop-row.self.belief) (Agrees t h c.add_single.new.self.belief) (lengths_more t rows n _ c.loop-row-test.true) (c.loop-row.invariant.step h) (c.in_ok-add_single.ensures.step h);
    }

pub returns-in_err-add_single-clause-step : goal.returns-in_err-add_single-clause-step
returns-in_err-add_single-clause-step g c h =
    let e = err_from_is_err_and c.from_residual.result c.from_residual.ensures.1 in
    let t = g.C.Certificate.table c.args.checked.now in
    let b = c.args.self.now.belief in
    let rows = c.args.rows.now in
    let n = c.loop-row.row-index in
    rw e.1 (steps_fail g.W.Wire.went g.W.Wire.failures c.args.self.now.wire c.add_single.new.self.wire _ _ (IsPaint t) (lengths t rows) (lengths t rows) (IsLost t) (Agrees t h b) (Agrees t h c.add_single.new.self.belief) (Agrees t h c.add_single.new.self.belief) (omega arith)
    (steps_next g.W.Wire.went g.W.Wire.failures g.met.W.Wire.lawful c.args.self.now.wire c.loop-row.self.wire c.add_single.new.self.wire _ _ (IsPaint t) (lengths t (take n rows)) _ (lengths t rows) (IsLost t)
    (Agrees t h b) (Agrees t h c.loop-row.self.belief) (Agrees t h c.add_single.new.self.belief) (lengths_within t rows n _ c.loop-row-test.true) (c.loop-row.invariant.step h) (c.in_err-add_single.ensures.step h)))
