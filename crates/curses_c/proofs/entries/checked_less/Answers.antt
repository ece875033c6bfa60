use Rattle.curses_c.proofs.Openings.{unleft}
use Rattle.curses_c.proofs.entries.checked_less.Goals as goal

pub returns-in_err-certify_without-clause-refused : goal.returns-in_err-certify_without-clause-refused
returns-in_err-certify_without-clause-refused c =
    let d = c.args.described.now in
    unleft d.entry d.size.rows d.size.cols c.in_err-certify_without.field-0.0 c.from_residual.result c.in_err-certify_without.ensures.end c.from_residual.ensures.1
