use Rattle.std.proofs.Common.{Option, subst}
use Rattle.vt_term.specs.Screen.{State}
use Rattle.ti_words.specs.Runs.{IsStart}
use Rattle.ti_words.proofs.RunFacts.{nowhere_never_runs}
use Rattle.ti_words.proofs.runs.run_words.Goals as goal

-- no state begins so
pub returns-in-None : goal.returns-in-None
returns-in-None c =
    nowhere_never_runs c.args.size.rows c.args.size.cols c.args.start.now c.args.fill c.args.bytes.now
    (subst (λ (found : Option State). IsStart c.args.size.rows c.args.size.cols c.args.start.now c.args.fill found) c.in-None.is c.in_ok-terminal.ensures)
