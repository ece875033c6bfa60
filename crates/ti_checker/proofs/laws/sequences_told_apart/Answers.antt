use Rattle.ti_checker.proofs.Answers.{sequence_whole, single_not_whole, dropped_not_whole}
use Rattle.ti_checker.proofs.laws.sequences_told_apart.Goals as goal

pub returns : goal.returns
returns c = record { sequence = sequence_whole; single = single_not_whole; dropped = dropped_not_whole }
