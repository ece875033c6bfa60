use Rattle.std.proofs.Common.{None, arith, refl}
use Rattle.cur_steps.specs.Beliefs.{Belief}
use Rattle.cur_steps.proofs.Actions.{acts_nothing}
use Rattle.cur_steps.proofs.Turns.{colors_gone, no_colors, no_color_lines}
use Rattle.cur_steps.proofs.pens.Pen.colors_off.Goals as goal

pub returns-then-plain-clause-step : goal.returns-then-plain-clause-step
returns-then-plain-clause-step g c h =
    let t = g.C.Certificate.table c.args.checked.now in
    let b = c.args.self.now.belief in
    let d : Belief = record b { brush = record b.brush { foreground = None; background = None } } in
    acts_nothing g.W.Wire.went g.W.Wire.failures g.met.W.Wire.lawful c.args.self.now.wire t c.requires.checked _ h h b d (no_colors t h b (c.is_uncolored-plain.ensures.foreground c.if-plain.true) (c.is_uncolored-plain.ensures.background c.if-plain.true))

pub returns-clause-step : goal.returns-clause-step
returns-clause-step g c h =
    let t = g.C.Certificate.table c.args.checked.now in
    let b = c.args.self.now.belief in
    c.send_line_of.ensures.step t.longest.op h b _ refl (omega arith) (record { turns = λ there. colors_gone t h b; stays = λ none. no_color_lines t h b none })
