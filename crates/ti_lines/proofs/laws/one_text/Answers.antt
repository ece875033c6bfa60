use Rattle.ti_lines.proofs.laws.one_text.Goals as goal
use Rattle.ti_lines.proofs.EffectTexts.{one_text}

pub returns : goal.returns
returns c = one_text
