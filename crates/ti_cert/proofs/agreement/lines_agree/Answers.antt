use Rattle.ti_cert.proofs.Disagreements.{line_differs, line_unwanted}
use Rattle.ti_cert.proofs.agreement.lines_agree.Goals as goal

pub returns-in-Err-Disagree-clause-disagrees : goal.returns-in-Err-Disagree-clause-disagrees
returns-in-Err-Disagree-clause-disagrees c =
    line_differs c.args.table.now c.args.entry.now c.size.result.rows c.size.result.cols c.in-Err-Disagree.field-0 c.in-Err-Disagree.row c.at_row.result c.requires.fit c.requires.pairs c.size.ensures.rows c.size.ensures.cols c.at_row.ensures
    c.in-Err-Disagree.field-0-is c.in-Err-Disagree.ensures.fault

pub returns-in-Err-Unwanted-clause-disagrees : goal.returns-in-Err-Unwanted-clause-disagrees
returns-in-Err-Unwanted-clause-disagrees c =
    line_unwanted c.args.table.now c.args.entry.now c.size.result.rows c.size.result.cols c.in-Err-Unwanted.field-0 c.in-Err-Unwanted.row c.at_row-in-Err-Unwanted.result c.requires.fit c.requires.pairs c.size.ensures.rows c.size.ensures.cols c.at_row-in-Err-Unwanted.ensures
    c.in-Err-Unwanted.field-0-is c.in-Err-Unwanted.ensures.fault
