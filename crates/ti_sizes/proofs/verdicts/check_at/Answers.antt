use Rattle.ti_sizes.proofs.verdicts.check_at.Goals as goal

pub returns-in-Err-clause-doubt : goal.returns-in-Err-clause-doubt
returns-in-Err-clause-doubt c = c.doubt_of.ensures c.args.entry.now c.in-Err.ensures.refused
