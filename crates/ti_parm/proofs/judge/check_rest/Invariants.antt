use Rattle.std.proofs.Common.{◌≡◌, length}
use Rattle.ti_parm.specs.Conditionals.{judged}
use Rattle.ti_parm.specs.Syntax.{ahead}
use Rattle.ti_parm.proofs.judge.check_rest.Given as goal

abbrev pub invariant-loop-rest : goal.invariant-loop-rest
invariant-loop-rest l = judged (ahead l.rest).behind l.nest ≡ judged (ahead l.text).behind l.initial.nest

abbrev pub decreases-loop-rest : goal.decreases-loop-rest
decreases-loop-rest l = length l.rest
