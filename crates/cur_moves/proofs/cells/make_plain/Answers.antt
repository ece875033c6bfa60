use Rattle.std.proofs.Common.{length, arith}
use Rattle.cur_steps.proofs.Stops.{steps_wider}
use Rattle.ti_rows.specs.declared.rows.Row.TheVariants.{Sgr0}
use Rattle.ti_conforms.specs.Certified.{IsLost, text_of}
use Rattle.cur_steps.specs.Pieces.{IsPaint}
use Rattle.cur_steps.specs.Beliefs.{Agrees, plain_limit}
use Rattle.cur_moves.proofs.cells.make_plain.Goals as goal

pub returns-clause-step : goal.returns-clause-step
returns-clause-step g c h =
    let t = g.C.Certificate.table c.args.checked.now in
    let b = c.args.pen.now.belief in
    let z = c.strip.new.self.belief in
    steps_wider g.W.Wire.went g.W.Wire.failures c.args.pen.now.wire c.strip.new.self.wire c.strip.result (IsPaint t) (length (text_of t Sgr0)) (plain_limit t) (IsLost t) (Agrees t h b) (Agrees t h z) (Agrees t h b) (Agrees t h z)
    (omega (arith, c.has_short_plain.ensures.short c.if-not-has_short_plain.false)) (λ s x. x) (λ s x. x) (c.strip.ensures.step h)
