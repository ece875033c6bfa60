use Rattle.ti_checker.specs.Trials.{EndsBelow}
use Rattle.ti_checker.proofs.trials.probe_for.Given as goal

abbrev pub invariant-loop-number : goal.invariant-loop-number
invariant-loop-number l = EndsBelow l.size.rows l.size.cols l.taught l.row l.effect l.number
