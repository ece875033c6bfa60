use Rattle.cur_play.proofs.GridFacts.{keeps_attributes, keeps_flag}
use Rattle.cur_play.proofs.windows.change.Goals as goal

pub returns-in-Flag-clause-touched : goal.returns-in-Flag-clause-touched
returns-in-Flag-clause-touched c = keeps_flag c.args.touched.now c.in-Flag.call c.args.desk.now c.flag.new.desk _ _ _ c.flag.ensures

pub returns-in-Attributes-clause-touched : goal.returns-in-Attributes-clause-touched
returns-in-Attributes-clause-touched c = keeps_attributes c.args.touched.now c.in-Attributes.call c.args.desk.now c.attributes.new.desk _ _ _ c.attributes.ensures
