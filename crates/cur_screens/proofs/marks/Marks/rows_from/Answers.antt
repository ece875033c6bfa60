use Rattle.std.proofs.Common.{◌+◌, arith}
use Rattle.cur_screens.proofs.marks.Marks.rows_from.Goals as goal

pub returns-clause-within : goal.returns-clause-within
returns-clause-within c = c.counted_from.ensures.within c.args.rows c.rows.ensures.within

pub returns-clause-others : goal.returns-clause-others
returns-clause-others c i j lt side = c.rows.ensures.others (c.args.top + i) j (omega (arith, lt)) (c.counted_from.ensures.others i side)
