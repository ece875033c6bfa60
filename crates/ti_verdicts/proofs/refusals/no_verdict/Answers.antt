use Rattle.ti_verdicts.specs.Refusals.{no_text}
use Rattle.ti_verdicts.proofs.refusals.no_verdict.Goals as goal

pub returns : goal.returns
returns c = c.verdict.ensures (no_text c.args.no.now) c.no_words.ensures
