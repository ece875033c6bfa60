use Rattle.std.proofs.Common.{None, length, arith, refl}
use Rattle.ti_rows.specs.declared.rows.Row.TheVariants.{Sgr0}
use Rattle.ti_conforms.specs.Certified.{text_of}
use Rattle.cur_steps.specs.Inks.{plain_brush}
use Rattle.cur_steps.specs.Beliefs.{Belief}
use Rattle.cur_steps.proofs.Actions.{line_ends}
use Rattle.cur_steps.proofs.Answers.{line_is}
use Rattle.cur_steps.proofs.SetFacts.{with_set_left}
use Rattle.cur_steps.proofs.SingleFacts.{stripped}
use Rattle.cur_steps.proofs.pens.Pen.strip.Goals as goal

pub returns-clause-step : goal.returns-clause-step
returns-clause-step g c h =
    let t = g.C.Certificate.table c.args.checked.now in
    let b = c.args.self.now.belief in
    let d : Belief = record b { brush = plain_brush; graphic = None } in
    let line = c.unwrap-line.result in
    let is = line_is t Sgr0 c.line.result line c.unwrap-line.ensures c.line.ensures.value in
    rw c.plain-self.ensures.value (c.send_line.ensures.leads (length (text_of t Sgr0)) h h b _ refl (omega arith)
    (with_set_left t line.now h h b d _ (line_ends t c.requires.checked Sgr0 line.now is h h b d (stripped t h b)) c.set_behind-self.ensures.behind))
