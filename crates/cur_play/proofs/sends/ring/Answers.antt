use Rattle.std.proofs.Common.{refl, ap}
use Rattle.cur_update.specs.Painters.{Painted}
use Rattle.cur_play.proofs.Failures.{rung_short}
use Rattle.cur_play.proofs.sends.ring.Goals as goal

pub returns-in-Ok-clause-puts : goal.returns-in-Ok-clause-puts
returns-in-Ok-clause-puts g c = λ screen. (c.in-Ok.ensures.beeps.line, record { sends = c.in-Ok.ensures.beeps; all = refl; shown = ap (λ (p : Painted _). p.shown) c.in-Ok.ensures.others })

pub returns-in-Err-Wire-clause-puts : goal.returns-in-Err-Wire-clause-puts
returns-in-Err-Wire-clause-puts g c = λ screen.
    rung_short g.W.Wire.went g.W.Wire.failures c.args.wire.now c.beep.new.wire (g.C.Certificate.table c.args.painter.now.checked) c.args.painter.now c.beep.new.self c.in-Err-Wire.field-0 _ c.in-Err-Wire.field-0-is
    c.in-Err-Wire.ensures.beeps (ap (λ (p : Painted _). p.shown) c.in-Err-Wire.ensures.others)
