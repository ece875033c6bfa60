use Rattle.ti_checker.proofs.judgements.row_effect.Goals as goal

pub returns-in-Err-clause-fault : goal.returns-in-Err-clause-fault
returns-in-Err-clause-fault c = c.not_whole.ensures c.args.bytes.now c.in-Err.ensures.fault
