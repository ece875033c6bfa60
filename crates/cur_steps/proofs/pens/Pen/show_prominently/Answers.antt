use Rattle.std.proofs.Common.{arith}
use Rattle.std.proofs.lemmas.Result.{err_from_is_err_and}
use Rattle.cur_steps.proofs.Stops.{spells_fail, spells_next}
use Rattle.ti_rows.specs.declared.rows.Row.TheVariants.{Cnorm, Cvvis}
use Rattle.ti_conforms.specs.Certified.{IsPiece, IsLost, text_of}
use Rattle.cur_steps.specs.Beliefs.{Agrees, modes_limit}
use Rattle.cur_steps.proofs.pens.Pen.show_prominently.Goals as goal

pub returns-in_err-change_mode-clause-step : goal.returns-in_err-change_mode-clause-step
returns-in_err-change_mode-clause-step g c h =
    let e = err_from_is_err_and c.from_residual.result c.from_residual.ensures.1 in
    let t = g.C.Certificate.table c.args.checked.now in
    let b = c.args.self.now.belief in
    rw e.1 (spells_fail g.W.Wire.went g.W.Wire.failures c.args.self.now.wire c.change_mode.new.self.wire _ _ (text_of t Cnorm) (text_of t Cvvis) (IsPiece t) t.longest.cnorm (modes_limit t) (IsLost t) (Agrees t h b) (Agrees t h c.change_mode.new.self.belief) (Agrees t h c.change_mode.new.self.belief) (omega arith) (c.in_err-change_mode.ensures.step h))

pub returns-clause-step : goal.returns-clause-step
returns-clause-step g c h =
    let t = g.C.Certificate.table c.args.checked.now in
    let b = c.args.self.now.belief in
    spells_next g.W.Wire.went g.W.Wire.failures g.met.W.Wire.lawful c.args.self.now.wire c.change_mode.new.self.wire c.change_mode-2.new.self.wire _ c.change_mode-2.result (text_of t Cnorm) (text_of t Cvvis) (IsPiece t) t.longest.cnorm t.longest.cvvis (modes_limit t) (IsLost t)
    (Agrees t h b) (Agrees t h c.change_mode.new.self.belief) (Agrees t h c.change_mode-2.new.self.belief) (omega arith) (c.in_ok-change_mode.ensures.step h) (c.change_mode-2.ensures.step h)
