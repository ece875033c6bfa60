use Rattle.std.proofs.Common.{Ok, ap, sym, ◌∙◌}
use Rattle.ti_parm.specs.Delays.{strip}
use Rattle.ti_parm.specs.Fault.{◌>>=◌}
use Rattle.ti_parm.proofs.Readings.{sent-same}
use Rattle.ti_parm.proofs.run.unread_statics_have_no_say.Goals as goal

pub returns : goal.returns
returns c string given one other end p q means agree = sent-same string given one other end p q agree means ∙ sym (ap (λ r. r >>= λ t. Ok (strip t.output)) means)
