use Rattle.std.proofs.Common.{◌*◌, [], refl, sym, arith}
use Rattle.cur_steps.proofs.Stops.{spells_as, spells_nothing}
use Rattle.ti_conforms.specs.Certified.{IsPiece, IsLost}
use Rattle.cur_steps.specs.Beliefs.{Agrees, Hidden, Normal, Prominent, changes, mode_text, modes_limit}
use Rattle.cur_steps.proofs.Actions.{agrees_lost}
use Rattle.cur_steps.proofs.Answers.{mode_spelled, text_same}
use Rattle.cur_steps.proofs.pens.Pen.show_as.Goals as goal

pub returns-then-is_mode-clause-step : goal.returns-then-is_mode-clause-step
returns-then-is_mode-clause-step g c h =
    let t = g.C.Certificate.table c.args.checked.now in
    let b = c.args.self.now.belief in
    let limit = changes b.mode c.args.wanted * modes_limit t in
    spells_as g.W.Wire.went g.W.Wire.failures c.args.self.now.wire c.args.self.now.wire _ [] (mode_text t b.mode c.args.wanted) (IsPiece t) limit limit (IsLost t) (Agrees t h b) (Agrees t h b)
    (sym (text_same t b.mode c.args.wanted (c.if-is_mode.ensures.so refl))) (omega arith)
    (spells_nothing g.W.Wire.went g.W.Wire.failures g.met.W.Wire.lawful c.args.self.now.wire tt (IsPiece t) limit (IsLost t) (Agrees t h b) (Agrees t h b) (λ s x. x.ready.rest) (λ s x. x) (agrees_lost t c.rows.ensures.checked h b))

pub returns-in-Hidden-clause-step : goal.returns-in-Hidden-clause-step
returns-in-Hidden-clause-step g c h =
    let t = g.C.Certificate.table c.args.checked.now in
    mode_spelled t h c.args.self.now.belief.mode c.args.wanted Hidden t.longest.civis c.in-Hidden.is (c.if-is_mode.ensures.counted refl) (omega arith) (c.change_mode.ensures.step h)

pub returns-in-Normal-clause-step : goal.returns-in-Normal-clause-step
returns-in-Normal-clause-step g c h =
    let t = g.C.Certificate.table c.args.checked.now in
    mode_spelled t h c.args.self.now.belief.mode c.args.wanted Normal t.longest.cnorm c.in-Normal.is (c.if-is_mode.ensures.counted refl) (omega arith) (c.change_mode-in-Normal.ensures.step h)

pub returns-in-Prominent-clause-step : goal.returns-in-Prominent-clause-step
returns-in-Prominent-clause-step g c h =
    let t = g.C.Certificate.table c.args.checked.now in
    mode_spelled t h c.args.self.now.belief.mode c.args.wanted Prominent (modes_limit t) c.in-Prominent.is (c.if-is_mode.ensures.counted refl) (omega arith) (c.show_prominently.ensures.step h)
