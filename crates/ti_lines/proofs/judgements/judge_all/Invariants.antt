use Rattle.ti_lines.specs.Judgements.{Progress}
use Rattle.ti_lines.proofs.judgements.judge_all.Given as goal

abbrev pub invariant-loop-next : goal.invariant-loop-next
invariant-loop-next g l = Progress g.J.Judge.rules l.fn.limit l.initial.judge g.R.Reader.left g.R.Reader.failures l.initial.reader l.reader l.lines l.line l.judge

abbrev pub decreases-loop-next : goal.decreases-loop-next
decreases-loop-next g l = l.lines.budget
