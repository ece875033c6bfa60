use Rattle.ti_conforms.specs.Closures.{First}
use Rattle.ti_conforms.proofs.Settlements.{settled_more, settled_stays}
use Rattle.ti_conforms.proofs.closures.Charsets.close.Goals as goal

pub loop-charset-init : goal.loop-charset-init
loop-charset-init c = record { sound = λ x h. First x h; more = λ x h. h }

pub loop-charset-preserved : goal.loop-charset-preserved
loop-charset-preserved c = record {
  sound = settled_more c.args.self.now c.loop-charset.self c.add.new.self c.args.changes.now c.in-Some.charset c.loop-charset.invariant.sound c.in-Some.ensures.some.1 c.add.ensures.only;
  more = λ x h. c.add.ensures.old x (c.loop-charset.invariant.more x h);
}

pub returns-clause-complete : goal.returns-clause-complete
returns-clause-complete c = settled_stays c.loop-charset.self c.args.self.now c.args.changes.now c.loop-charset.invariant.more c.in_default.ensures.none
