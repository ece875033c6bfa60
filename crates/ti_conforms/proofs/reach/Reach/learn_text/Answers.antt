use Rattle.vt_term.specs.Scanned.{IsTokenAt}
use Rattle.ti_conforms.proofs.Texts.{learned_none, learned_more, learned_all, learned_whole}
use Rattle.ti_conforms.proofs.reach.Reach.learn_text.Goals as goal

pub loop-end-init : goal.loop-end-init
loop-end-init c = learned_none c.args.self.now c.args.text.now

pub loop-end-preserved : goal.loop-end-preserved
loop-end-preserved c =
    let token : IsTokenAt c.args.text.now c.loop-end.at c.in-Ok-Some.end c.next.new.self = rw c.in-Ok-Some.field-0-is at c.in-Ok-Some.ensures.token in
    learned_more c.args.self.now c.args.text.now c.loop-end.at c.in-Ok-Some.end c.next.new.self c.loop-end.self c.learn_read.new.self c.loop-end.invariant token c.learn_read.ensures

pub returns-in-Ok-None-clause-learned : goal.returns-in-Ok-None-clause-learned
returns-in-Ok-None-clause-learned c = learned_all c.args.self.now c.args.text.now c.loop-end.at c.loop-end.self c.loop-end.invariant (c.in-Ok-None.ensures.end c.in-Ok-None.field-0-is)

pub returns-in-Ok-None-clause-whole : goal.returns-in-Ok-None-clause-whole
returns-in-Ok-None-clause-whole c = learned_whole c.args.self.now c.args.text.now c.loop-end.at c.loop-end.self c.loop-end.invariant (c.in-Ok-None.ensures.end c.in-Ok-None.field-0-is)
