use Rattle.std.proofs.Common.{refl}
use Rattle.cur_steps.specs.Beliefs.{Belief}
use Rattle.cur_steps.proofs.Actions.{acts_nothing}
use Rattle.cur_steps.proofs.LookFacts.{looks_kept}
use Rattle.cur_steps.proofs.pens.Pen.attributes_as.Goals as goal

pub returns-then-look_alike-clause-step : goal.returns-then-look_alike-clause-step
returns-then-look_alike-clause-step g c h =
    let t = g.C.Certificate.table c.args.checked.now in
    let b = c.args.self.now.belief in
    let d : Belief = record b { brush = record b.brush { attributes = c.args.wanted } } in
    acts_nothing g.W.Wire.went g.W.Wire.failures g.met.W.Wire.lawful c.args.self.now.wire t c.requires.checked _ h h b d (looks_kept t h b c.args.wanted (c.if-look_alike.ensures.alike refl))
