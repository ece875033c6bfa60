use Rattle.vt_effects.proofs.Sayings.{records_tell}
use Rattle.vt_effects.proofs.laws.record_settings.Goals as goal

pub returns : goal.returns
returns c = λ rows cols start tokens e h. records_tell rows cols start tokens e h
