use Rattle.std.proofs.Common.{rules}
use Rattle.ti_grades.proofs.Lists.{first_list}
use Rattle.ti_grades.proofs.functions.first_row.Goals as goal

pub returns-clause-first : goal.returns-clause-first
returns-clause-first c = first_list c.args.size.rows c.args.size.cols c.args.place c.unwrap.result c.args.size.limits (search rules)
