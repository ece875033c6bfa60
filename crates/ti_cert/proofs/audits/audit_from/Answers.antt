use Rattle.ti_cert.proofs.Relations.{whole_read, sizes_of_table, few_of_table, table_of_text, text_refused, taken, failed_at}
use Rattle.ti_cert.specs.Basic.{basic_text}
use Rattle.ti_cert.proofs.BasicTexts.{stopped}
use Rattle.ti_conforms.proofs.Cuts.{judged_holds}
use Rattle.ti_lines.specs.Reader.{Rose}
use Rattle.ti_cert.proofs.audits.audit_from.Goals as goal

pub into_table-requires : goal.into_table-requires
into_table-requires g c = (whole_read c.in_ok-progress.progress c.judge_lines.new.judge c.args.size.rows c.args.size.cols g.R.Reader.left g.R.Reader.failures c.args.reader.now c.judge_lines.new.reader c.in_ok-progress.ensures.ok c.in-Ok.ensures.reports).whole

pub returns-in-Ok-clause-rows : goal.returns-in-Ok-clause-rows
returns-in-Ok-clause-rows g c =
    let w = whole_read c.in_ok-progress.progress c.judge_lines.new.judge c.args.size.rows c.args.size.cols g.R.Reader.left g.R.Reader.failures c.args.reader.now c.judge_lines.new.reader c.in_ok-progress.ensures.ok c.in-Ok.ensures.reports in
    (sizes_of_table c.judge_lines.new.judge c.args.size.rows c.args.size.cols c.into_table.result w c.into_table.ensures.made).0

pub returns-in-Ok-clause-cols : goal.returns-in-Ok-clause-cols
returns-in-Ok-clause-cols g c =
    let w = whole_read c.in_ok-progress.progress c.judge_lines.new.judge c.args.size.rows c.args.size.cols g.R.Reader.left g.R.Reader.failures c.args.reader.now c.judge_lines.new.reader c.in_ok-progress.ensures.ok c.in-Ok.ensures.reports in
    (sizes_of_table c.judge_lines.new.judge c.args.size.rows c.args.size.cols c.into_table.result w c.into_table.ensures.made).1

pub returns-in-Ok-clause-holds : goal.returns-in-Ok-clause-holds
returns-in-Ok-clause-holds g c = judged_holds _ c.into_table.ensures.judged

pub returns-in-Ok-clause-few : goal.returns-in-Ok-clause-few
returns-in-Ok-clause-few g c =
    let w = whole_read c.in_ok-progress.progress c.judge_lines.new.judge c.args.size.rows c.args.size.cols g.R.Reader.left g.R.Reader.failures c.args.reader.now c.judge_lines.new.reader c.in_ok-progress.ensures.ok c.in-Ok.ensures.reports in
    few_of_table c.judge_lines.new.judge c.args.size.rows c.args.size.cols c.into_table.result w c.into_table.ensures.made

pub returns-in-Ok-clause-accepted : goal.returns-in-Ok-clause-accepted
returns-in-Ok-clause-accepted g c = λ text left. table_of_text c.in_ok-progress.progress c.judge_lines.new.judge c.args.size.rows c.args.size.cols text c.into_table.result c.in_ok-progress.ensures.ok (c.in-Ok.ensures.text text left) c.into_table.ensures.made

pub returns-in-Err-clause-refused : goal.returns-in-Err-clause-refused
returns-in-Err-clause-refused g c = λ text left. text_refused c.in_ok-progress.progress c.judge_lines.new.judge c.args.size.rows c.args.size.cols text (Rose (g.R.Reader.failures c.args.reader.now) (g.R.Reader.failures c.judge_lines.new.reader)) c.in-Err.fault
    c.in_ok-progress.ensures.ok (c.in-Err.ensures.text text left)

pub returns-in-Err-clause-basic : goal.returns-in-Err-clause-basic
returns-in-Err-clause-basic g c = λ home el left.
    let text = basic_text c.args.size.rows c.args.size.cols home el in
    let F = Rose (g.R.Reader.failures c.args.reader.now) (g.R.Reader.failures c.judge_lines.new.reader) in
    stopped c.args.size.rows c.args.size.cols home el F _ c.args.size.limits
    (text_refused c.in_ok-progress.progress c.judge_lines.new.judge c.args.size.rows c.args.size.cols text F c.in-Err.fault c.in_ok-progress.ensures.ok (c.in-Err.ensures.text text left))

pub returns-in-Ok-clause-takes : goal.returns-in-Ok-clause-takes
returns-in-Ok-clause-takes g c = taken c.in_ok-progress.progress c.judge_lines.new.judge c.args.size.rows c.args.size.cols g.R.Reader.left g.R.Reader.failures c.args.reader.now c.judge_lines.new.reader c.into_table.result
    c.in_ok-progress.ensures.ok c.in-Ok.ensures.reports

pub returns-in-Err-clause-takes : goal.returns-in-Err-clause-takes
returns-in-Err-clause-takes g c = failed_at c.in_ok-progress.progress c.judge_lines.new.judge c.args.size.rows c.args.size.cols g.R.Reader.left g.R.Reader.failures c.args.reader.now c.judge_lines.new.reader c.in-Err.fault
    c.in_ok-progress.ensures.ok c.in-Err.ensures.reports
