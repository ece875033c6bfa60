use Rattle.std.proofs.Common.{refl, sym, subst, ◌∙◌}
use Rattle.ti_rows.specs.Names.{order}
use Rattle.ti_rows.specs.Lists.{rank}
use Rattle.ti_rows.proofs.ListFacts.{next_follows}
use Rattle.ti_conforms.proofs.Walks.{nearer}
use Rattle.ti_conforms.specs.Looks.{no_looks}
use Rattle.ti_checker.specs.No.{IsFaulty}
use Rattle.ti_checker.specs.Taught.{AtFirst}
use Rattle.ti_checker.specs.declared.causes.Cause.{Cause}
use Rattle.ti_faults.proofs.Ranks.{right_none, right_next, right_last}
use Rattle.ti_faults.proofs.row_faults.string_fault.Goals as goal

pub loop-cause-init : goal.loop-cause-init
loop-cause-init c = record {
  range = c.requires.range;
  same = refl;
  taught = AtFirst c.args.first no_looks c.requires refl;
  earlier = right_none c.args.size.rows c.args.size.cols c.args.string.now (order c.args.first) (rank c.args.size.rows c.args.size.cols c.args.first) c.requires.rank_zero;
}

pub returns-in-Err-clause-some : goal.returns-in-Err-clause-some
returns-in-Err-clause-some c = record {
  row = c.loop-cause.row;
  of_cap = c.loop-cause.invariant.same;
  cap_is = c.at.ensures.cap;
  params_are = c.at.ensures.params;
  range = c.loop-cause.invariant.range;
  faulty = subst (λ (cause : Cause). IsFaulty c.args.size.rows c.args.size.cols c.args.string.now c.loop-cause.row cause) (sym c.at.ensures.cause) c.in-Err.ensures.faulty;
  earlier = c.loop-cause.invariant.earlier;
}

pub loop-cause-smaller : goal.loop-cause-smaller
loop-cause-smaller c =
    let f = next_follows c.args.size.rows c.args.size.cols c.loop-cause.row c.in-Some.next c.args.size.limits c.loop-cause.invariant.range (sym c.in-Some.ensures) in
    nearer c.args.size.rows c.args.size.cols c.loop-cause.row c.in-Some.next c.args.size.limits f f.range

pub loop-cause-preserved : goal.loop-cause-preserved
loop-cause-preserved c =
    let f = next_follows c.args.size.rows c.args.size.cols c.loop-cause.row c.in-Some.next c.args.size.limits c.loop-cause.invariant.range (sym c.in-Some.ensures) in
    record {
      range = f.range;
      same = f.same_order ∙ c.loop-cause.invariant.same;
      taught = c.in-Ok.ensures.taught c.in-Some.next f;
      earlier = right_next c.args.size.rows c.args.size.cols c.args.string.now (order c.args.first) c.loop-cause.row c.in-Some.next c.loop-cause.invariant.range c.loop-cause.invariant.same f c.in-Ok.ensures.right c.loop-cause.invariant.earlier;
    }

pub returns-in-None-clause-none : goal.returns-in-None-clause-none
returns-in-None-clause-none c =
    right_last c.args.size.rows c.args.size.cols c.args.string.now (order c.args.first) c.loop-cause.row c.args.size.limits c.loop-cause.invariant.range c.loop-cause.invariant.same (sym c.in-None.ensures) c.in-Ok.ensures.right c.loop-cause.invariant.earlier
