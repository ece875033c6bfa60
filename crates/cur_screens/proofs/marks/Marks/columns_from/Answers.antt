use Rattle.std.proofs.Common.{◌+◌, arith}
use Rattle.cur_screens.proofs.marks.Marks.columns_from.Goals as goal

pub returns-clause-within : goal.returns-clause-within
returns-clause-within c = c.counted_from.ensures.within c.args.cols c.columns.ensures.within

pub returns-clause-others : goal.returns-clause-others
returns-clause-others c j lt side = c.columns.ensures.others (c.args.left + j) (omega (arith, lt)) (c.counted_from.ensures.others j side)
