use Rattle.std.proofs.Common.{◌≡◌, ◌≤◌, ◌+◌, length}
use Rattle.ti_parm.specs.Conditionals.{judged}
use Rattle.ti_parm.specs.Skips.{past}
use Rattle.ti_parm.specs.Syntax.{HasEnd, ahead}
use Rattle.ti_parm.proofs.skip.skip.Given as goal

abbrev pub invariant-loop-rest : goal.invariant-loop-rest
invariant-loop-rest l = record {
  judged : judged (ahead l.rest).behind l.nest ≡ judged (ahead l.text).behind l.initial.nest;
  past : HasEnd (ahead l.text).behind → HasEnd (ahead l.rest).behind × (past l.to_else l.depth (ahead l.rest).behind ≡ past l.to_else 0 (ahead l.text).behind);
  shallow : l.depth + length l.rest ≤ length l.text;
}

abbrev pub decreases-loop-rest : goal.decreases-loop-rest
decreases-loop-rest l = length l.rest
