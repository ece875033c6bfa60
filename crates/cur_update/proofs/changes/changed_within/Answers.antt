use Rattle.std.proofs.Common.{arith}
use Rattle.cur_update.proofs.MarkedLines.{equal_after, equal_before, part_long}
use Rattle.cur_update.proofs.changes.changed_within.Goals as goal

pub returns-clause-before : goal.returns-clause-before
returns-clause-before c =
    let long = part_long c.args.new.now c.args.span.at c.args.span.size c.requires.within in
    equal_before c.args.old.now c.args.new.now c.args.span.at c.args.span.size c.changed_columns-columns.result.from
    (omega (arith, long, c.changed_columns-columns.ensures.order, c.changed_columns-columns.ensures.within)) c.requires.before c.changed_columns-columns.ensures.before

pub returns-clause-after : goal.returns-clause-after
returns-clause-after c =
    equal_after c.args.old.now c.args.new.now c.args.span.at c.args.span.size c.changed_columns-columns.result.end
    (part_long c.args.new.now c.args.span.at c.args.span.size c.requires.within) c.requires.after c.changed_columns-columns.ensures.after
