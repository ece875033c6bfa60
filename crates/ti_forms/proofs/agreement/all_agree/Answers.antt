use Rattle.std.proofs.Common.{sym, ◌∙◌, subst, ◌<◌, ℕ}
use Rattle.ti_rows.specs.Names.{order}
use Rattle.ti_rows.proofs.ListFacts.{next_follows}
use Rattle.ti_conforms.specs.Agreement.{SendsAt}
use Rattle.ti_conforms.proofs.Walks.{one_more, all_send, nearer}
use Rattle.ti_forms.proofs.agreement.all_agree.Goals as goal

pub loop-bytes-smaller : goal.loop-bytes-smaller
loop-bytes-smaller g c =
    let f = next_follows c.args.size.rows c.args.size.cols c.loop-bytes.row c.in-Some.next c.args.size.limits c.loop-bytes.invariant.range (sym c.in-Some.ensures) in
    nearer c.args.size.rows c.args.size.cols c.loop-bytes.row c.in-Some.next c.args.size.limits f f.range

pub loop-bytes-preserved : goal.loop-bytes-preserved
loop-bytes-preserved g c =
    let f = next_follows c.args.size.rows c.args.size.cols c.loop-bytes.row c.in-Some.next c.args.size.limits c.loop-bytes.invariant.range (sym c.in-Some.ensures) in
    record {
      range = f.range;
      same = f.same_order ∙ c.loop-bytes.invariant.same;
      before = subst (λ (n : ℕ). (k : ℕ) → k < n → SendsAt c.args.size.rows c.args.size.cols c.args.string.now (g.L.LinesByRow.line_of c.args.lines.now) (order c.args.first) k) (sym f.rank_next)
          (one_more c.args.size.rows c.args.size.cols c.args.string.now (g.L.LinesByRow.line_of c.args.lines.now) (order c.args.first) c.loop-bytes.row c.loop-bytes.invariant.range c.loop-bytes.invariant.same c.in_ok-row_agrees.ensures.sends c.loop-bytes.invariant.before);
    }

pub returns-in-None-clause-sends : goal.returns-in-None-clause-sends
returns-in-None-clause-sends g c = all_send c.args.size.rows c.args.size.cols c.args.string.now (g.L.LinesByRow.line_of c.args.lines.now) (order c.args.first) c.loop-bytes.row c.args.size.limits c.loop-bytes.invariant.range c.loop-bytes.invariant.same (sym c.in-None.ensures)
    (one_more c.args.size.rows c.args.size.cols c.args.string.now (g.L.LinesByRow.line_of c.args.lines.now) (order c.args.first) c.loop-bytes.row c.loop-bytes.invariant.range c.loop-bytes.invariant.same c.in_ok-row_agrees.ensures.sends c.loop-bytes.invariant.before)
