use Rattle.std.proofs.Common.{subst}
use Rattle.std.proofs.lemmas.Result.{err_from_is_err_and}
use Rattle.ti_lines.specs.Lines.{IsNext}
use Rattle.ti_lines.proofs.Texts.{begins}
use Rattle.ti_lines.proofs.Progress.{progress_start, progress_takes, progress_line, exit_halted, exit_line, exit_closed}
use Rattle.ti_lines.proofs.judgements.judge_all.Goals as goal

pub loop-next-init : goal.loop-next-init
loop-next-init g c = rw c.new-lines.ensures (progress_start g.J.Judge.rules c.args.limit c.args.judge.now g.R.Reader.left g.R.Reader.failures c.args.reader.now)

-- the progress when the next line was looked for
pub returns-in-Err : goal.returns-in-Err
returns-in-Err g c =
    let rules = g.J.Judge.rules in
    let p = progress_takes rules c.args.limit c.args.judge.now g.R.Reader.left g.R.Reader.failures c.args.reader.now c.loop-next.reader c.next.new.reader c.loop-next.lines c.next.new.self c.loop-next.line c.loop-next.judge c.loop-next.invariant c.in-Err.ensures.takes in
    rw c.halted.ensures
    (exit_halted rules c.args.limit c.args.judge.now c.loop-next.judge g.R.Reader.left g.R.Reader.failures c.args.reader.now c.loop-next.reader c.next.new.reader c.next.new.self c.loop-next.line c.loop-next.judge c.in-Err.halt p
    c.loop-next.invariant.gave.counts c.in-Err.ensures.halts c.in-Err.ensures.within)

pub judge_line-requires-clause-taken : goal.judge_line-requires-clause-taken
judge_line-requires-clause-taken g c =
    let is = subst (λ n. IsNext g.R.Reader.left c.next.new.self c.next.new.reader n) c.in-Line.is c.in-Ok.ensures.next in
    (begins c.next.new.self.unread c.in-Line.count is.0).within

pub returns-in_err-judge_line-in-Line : goal.returns-in_err-judge_line-in-Line
returns-in_err-judge_line-in-Line g c =
    let rules = g.J.Judge.rules in
    let p = progress_takes rules c.args.limit c.args.judge.now g.R.Reader.left g.R.Reader.failures c.args.reader.now c.loop-next.reader c.next.new.reader c.loop-next.lines c.next.new.self c.loop-next.line c.loop-next.judge c.loop-next.invariant c.in-Ok.ensures.takes in
    let is = subst (λ n. IsNext g.R.Reader.left c.next.new.self c.next.new.reader n) c.in-Line.is c.in-Ok.ensures.next in
    let e = err_from_is_err_and c.from_residual.result c.from_residual.ensures.1 in
    rw (e.1, e.2) (exit_line rules c.args.limit c.args.judge.now c.judge_line.new.judge g.R.Reader.left g.R.Reader.failures c.args.reader.now c.next.new.reader c.next.new.self c.loop-next.line c.loop-next.judge c.in-Line.count _ p is.0 is.1
    c.in_err-judge_line-in-Line.ensures.fails c.in_err-judge_line-in-Line.ensures.number)

pub returns-in_default : goal.returns-in_default
returns-in_default g c =
    let rules = g.J.Judge.rules in
    let p = progress_takes rules c.args.limit c.args.judge.now g.R.Reader.left g.R.Reader.failures c.args.reader.now c.loop-next.reader c.next.new.reader c.loop-next.lines c.next.new.self c.loop-next.line c.loop-next.judge c.loop-next.invariant c.in-Ok.ensures.takes in
    exit_closed rules c.args.limit c.args.judge.now c.close.new.judge g.R.Reader.left g.R.Reader.failures c.args.reader.now c.next.new.reader c.next.new.self c.loop-next.line c.loop-next.judge c.in-Ok.next c.close.result p c.in-Ok.ensures.next
    (λ n e. c.in_default.not-Line n e) c.close.ensures.closes c.close.ensures.number

pub loop-next-preserved : goal.loop-next-preserved
loop-next-preserved g c =
    let rules = g.J.Judge.rules in
    let p = progress_takes rules c.args.limit c.args.judge.now g.R.Reader.left g.R.Reader.failures c.args.reader.now c.loop-next.reader c.next.new.reader c.loop-next.lines c.next.new.self c.loop-next.line c.loop-next.judge c.loop-next.invariant c.in-Ok.ensures.takes in
    let is = subst (λ n. IsNext g.R.Reader.left c.next.new.self c.next.new.reader n) c.in-Line.is c.in-Ok.ensures.next in
    rw c.in_ok-judge_line-in-Line.ensures.passes
    (progress_line rules c.args.limit c.args.judge.now g.R.Reader.left g.R.Reader.failures c.args.reader.now c.next.new.reader c.next.new.self c.loop-next.line c.loop-next.judge c.judge_line.new.judge c.in-Line.count p is.0 is.1
    c.in_ok-judge_line-in-Line.ensures.judges)
