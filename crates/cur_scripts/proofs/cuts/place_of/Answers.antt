use Rattle.cur_scripts.proofs.CutFacts.{place_found}
use Rattle.cur_scripts.proofs.cuts.place_of.Goals as goal

pub returns-clause-value : goal.returns-clause-value
returns-clause-value c = place_found c.args.byte c.args.text.now c.memchr.result c.memchr.ensures
