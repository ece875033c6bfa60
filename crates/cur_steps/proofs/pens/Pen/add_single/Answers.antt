use Rattle.std.proofs.Common.{◌≡◌, true, length, sym}
use Rattle.ti_conforms.specs.Certified.{HasSingles, text_of}
use Rattle.cur_steps.specs.Beliefs.{Belief}
use Rattle.cur_steps.specs.Singles.{has_single, turned_on}
use Rattle.cur_steps.proofs.Actions.{acts_nothing}
use Rattle.cur_steps.proofs.SingleFacts.{with_attributes, single_is, single_set, single_absent}
use Rattle.cur_steps.proofs.pens.Pen.add_single.Goals as goal

pub returns-then-not-has_single-clause-step : goal.returns-then-not-has_single-clause-step
returns-then-not-has_single-clause-step g c h =
    acts_nothing g.W.Wire.went g.W.Wire.failures g.met.W.Wire.lawful c.args.self.now.wire (g.C.Certificate.table c.args.checked.now) c.requires.checked _ h h c.args.self.now.belief c.args.self.now.belief (λ s x. x)

pub returns-clause-step : goal.returns-clause-step
returns-clause-step g c h =
    let t = g.C.Certificate.table c.args.checked.now in
    let b = c.args.self.now.belief in
    let row = c.args.row in
    let d : Belief = with_attributes b (turned_on row b.brush.attributes) in
    let on : has_single row c.args.wanted ≡ true = sym c.if-not-has_single.ensures in
    let singles : HasSingles t = c.requires.checked.singles c.requires.sgr in
    let is = single_is t c.args.wanted row on in
    rw c.turned_on-self.ensures
    (c.send_line_of.ensures.step (length (text_of t row)) h b d is.0 is.1
    (record { turns = λ there. single_set t singles c.args.wanted row on there h b c.requires.set; stays = λ none. single_absent t singles c.args.wanted row on none h b }))
