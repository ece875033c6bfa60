use Rattle.std.proofs.Common.{[], refl, sym, ap, arith}
use Rattle.cur_steps.proofs.Stops.{spells_as, spells_nothing}
use Rattle.ti_conforms.specs.Certified.{IsPiece, IsLost, limit_of, or_nothing, text_of}
use Rattle.cur_steps.specs.Beliefs.{Agrees}
use Rattle.cur_steps.proofs.Actions.{acts_nothing, agrees_lost}
use Rattle.cur_steps.proofs.Answers.{has_none, has_some}
use Rattle.cur_steps.proofs.lines.send_line_of.Goals as goal

pub returns-in-Some-clause-step : goal.returns-in-Some-clause-step
returns-in-Some-clause-step g c n x b d paint le passes =
    let t = g.C.Certificate.table c.args.checked.now in
    c.send_line.ensures.step n x x b d paint le (passes.turns (has_some t c.args.row c.in-Some.line.now c.in-Some.ensures.value))

pub returns-in-Some-clause-text : goal.returns-in-Some-clause-text
returns-in-Some-clause-text g c b d passes h =
    let t = g.C.Certificate.table c.args.checked.now in
    c.send_line.ensures.text b d (λ x. (passes x).turns (has_some t c.args.row c.in-Some.line.now c.in-Some.ensures.value)) h

pub returns-in-None-clause-step : goal.returns-in-None-clause-step
returns-in-None-clause-step g c n x b d paint le passes =
    let t = g.C.Certificate.table c.args.checked.now in
    acts_nothing g.W.Wire.went g.W.Wire.failures g.met.W.Wire.lawful c.args.wire.now t c.requires.checked n x x b d (passes.stays (has_none t c.args.row (c.in-None.ensures.none refl)))

pub returns-in-None-clause-text : goal.returns-in-None-clause-text
returns-in-None-clause-text g c b d passes h =
    let t = g.C.Certificate.table c.args.checked.now in
    let row = c.args.row in
    let none = c.in-None.ensures.none refl in
    let limit = limit_of t row in
    spells_as g.W.Wire.went g.W.Wire.failures c.args.wire.now c.args.wire.now _ [] (text_of t row) (IsPiece t) limit limit (IsLost t) (Agrees t h b) (Agrees t h d) (sym (ap or_nothing none)) (omega arith)
    (spells_nothing g.W.Wire.went g.W.Wire.failures g.met.W.Wire.lawful c.args.wire.now tt (IsPiece t) limit (IsLost t) (Agrees t h b) (Agrees t h d) (λ s x. x.ready.rest)
    ((passes h).stays (has_none t row none)) (agrees_lost t c.requires.checked h b))
