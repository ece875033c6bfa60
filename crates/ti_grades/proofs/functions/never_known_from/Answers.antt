use Rattle.std.proofs.Common.{refl, sym, ◌∙◌}
use Rattle.ti_rows.specs.Names.{order}
use Rattle.ti_rows.specs.Lists.{rank}
use Rattle.ti_rows.proofs.ListFacts.{next_follows}
use Rattle.ti_conforms.proofs.Walks.{nearer}
use Rattle.ti_grades.proofs.Lists.{none_before, one_more, after_last}
use Rattle.ti_grades.proofs.functions.never_known_from.Goals as goal

pub loop-row-init : goal.loop-row-init
loop-row-init c = record {
  range = c.requires.range;
  same = refl;
  earlier = none_before c.args.size.rows c.args.size.cols c.args.string.now (order c.args.first) (rank c.args.size.rows c.args.size.cols c.args.first) c.requires.rank_zero;
}

pub loop-row-smaller : goal.loop-row-smaller
loop-row-smaller c =
    let f = next_follows c.args.size.rows c.args.size.cols c.loop-row.row c.in-Some.next c.args.size.limits c.loop-row.invariant.range (sym c.in-Some.ensures) in
    nearer c.args.size.rows c.args.size.cols c.loop-row.row c.in-Some.next c.args.size.limits f f.range

pub loop-row-preserved : goal.loop-row-preserved
loop-row-preserved c =
    let f = next_follows c.args.size.rows c.args.size.cols c.loop-row.row c.in-Some.next c.args.size.limits c.loop-row.invariant.range (sym c.in-Some.ensures) in
    record {
      range = f.range;
      same = f.same_order ∙ c.loop-row.invariant.same;
      earlier = one_more c.args.size.rows c.args.size.cols c.args.string.now (order c.args.first) c.loop-row.row c.in-Some.next c.loop-row.invariant.range c.loop-row.invariant.same f (c.in_ok-sends_unknown.ensures.unknown c.if-not-branch.false) c.loop-row.invariant.earlier;
    }

pub returns-in-None : goal.returns-in-None
returns-in-None c =
    after_last c.args.size.rows c.args.size.cols c.args.string.now (order c.args.first) c.loop-row.row c.args.size.limits c.loop-row.invariant.range c.loop-row.invariant.same (sym c.in-None.ensures) (c.in_ok-sends_unknown.ensures.unknown c.if-not-branch.false) c.loop-row.invariant.earlier
