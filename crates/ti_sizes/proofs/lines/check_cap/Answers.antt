use Rattle.std.proofs.Common.{sym, ◌∙◌, subst, ◌<◌, ℕ}
use Rattle.vt_term.specs.Size.{max_rows, max_cols}
use Rattle.ti_rows.specs.Names.{order}
use Rattle.ti_rows.proofs.ListFacts.{next_follows}
use Rattle.ti_conforms.proofs.Walks.{nearer}
use Rattle.ti_sizes.specs.Lines.{IsSteadyAt}
use Rattle.ti_sizes.proofs.StepFacts.{greatest}
use Rattle.ti_sizes.proofs.Walks.{one_more, all_steady, next_there}
use Rattle.ti_sizes.proofs.lines.check_cap.Goals as goal

pub loop-next-smaller : goal.loop-next-smaller
loop-next-smaller g c =
    let there = next_there c.greatest-size.result.rows c.greatest-size.result.cols c.loop-next.row _ c.greatest-size.ensures.rows c.greatest-size.ensures.cols c.in-Some.ensures in
    let f = next_follows max_rows max_cols c.loop-next.row c.in-Some.next greatest c.loop-next.invariant.range there in
    nearer max_rows max_cols c.loop-next.row c.in-Some.next greatest f f.range

pub loop-next-preserved : goal.loop-next-preserved
loop-next-preserved g c =
    let there = next_there c.greatest-size.result.rows c.greatest-size.result.cols c.loop-next.row _ c.greatest-size.ensures.rows c.greatest-size.ensures.cols c.in-Some.ensures in
    let f = next_follows max_rows max_cols c.loop-next.row c.in-Some.next greatest c.loop-next.invariant.range there in
    record {
      range = f.range;
      same = f.same_order ∙ c.loop-next.invariant.same;
      before = subst (λ (n : ℕ). (k : ℕ) → k < n → IsSteadyAt (g.L.LinesByRow.line_of c.args.lines.now) (order c.args.first) k) (sym f.rank_next)
          (one_more (g.L.LinesByRow.line_of c.args.lines.now) (order c.args.first) c.loop-next.row c.loop-next.invariant.range c.loop-next.invariant.same c.in_ok-check_row.ensures c.loop-next.invariant.before);
    }

pub returns-in-None : goal.returns-in-None
returns-in-None g c = all_steady (g.L.LinesByRow.line_of c.args.lines.now) (order c.args.first) c.loop-next.row c.loop-next.invariant.range c.loop-next.invariant.same
    (next_there c.greatest-size.result.rows c.greatest-size.result.cols c.loop-next.row _ c.greatest-size.ensures.rows c.greatest-size.ensures.cols c.in-None.ensures)
    (one_more (g.L.LinesByRow.line_of c.args.lines.now) (order c.args.first) c.loop-next.row c.loop-next.invariant.range c.loop-next.invariant.same c.in_ok-check_row.ensures c.loop-next.invariant.before)
