use Rattle.vt_term.proofs.Runs.{reaches_place}
use Rattle.vt_term.proofs.tokenizer.place_after.Goals as goal

pub returns-in-len1-up-clause-leads : goal.returns-in-len1-up-clause-leads
returns-in-len1-up-clause-leads c = reaches_place c.args.size.rows c.args.size.cols c.args.tokens.now c.last-item.result c.place.result c.in-len1-up.len_at_least c.last-item.is c.place.ensures.leads
