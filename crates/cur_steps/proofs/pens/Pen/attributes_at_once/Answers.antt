use Rattle.std.proofs.Common.{arith, refl}
use Rattle.cur_steps.proofs.SetFacts.{attributes_lead, with_set_left}
use Rattle.cur_steps.proofs.pens.Pen.attributes_at_once.Goals as goal

pub returns-clause-step : goal.returns-clause-step
returns-clause-step g c h =
    let t = g.C.Certificate.table c.args.checked.now in
    let b = c.args.self.now.belief in
    c.send_line.ensures.leads t.longest.sgr h h b _ refl (omega arith)
    (with_set_left t c.args.line.now h h b _ _ (attributes_lead t c.requires.checked c.args.wanted c.args.line.now c.requires.line h b c.requires.colors) c.set_behind-self.ensures.behind)
