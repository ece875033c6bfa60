use Rattle.std.proofs.Common.{◌≡◌, ◌<◌, ◌∙◌, List, ℕ, None, length, take, sym, ap, subst, arith}
use Rattle.ti_lines.specs.Text.{line_end}
use Rattle.ti_lines.proofs.Ends.{line_next, long_next, none_before}
use Rattle.ti_lines.proofs.Gaves.{takes_joins}
use Rattle.ti_lines.proofs.lines.Lines.next.Goals as goal

pub returns-in-Some-clause-next : goal.returns-in-Some-clause-next
returns-in-Some-clause-next g c =
    rw (c.line_to.ensures, c.budget-budget.ensures.value)
    (line_next g.R.Reader.left c.loop-at.self c.loop-at.reader c.in-Some.at (c.in-Some.ensures.value ∙ ap line_end c.unread.ensures.value))

pub returns-then-seen-budget-clause-next : goal.returns-then-seen-budget-clause-next
returns-then-seen-budget-clause-next g c =
    let lt : c.loop-at.self.budget < length c.loop-at.self.unread = omega (arith, c.if-seen-budget.true, c.budget-budget.ensures.value, ap length c.unread-seen.ensures.value) in
    long_next c.loop-at.self (c.in-None.ensures.value ∙ ap line_end c.unread.ensures.value) lt

pub returns-in_err-fill-clause-takes : goal.returns-in_err-fill-clause-takes
returns-in_err-fill-clause-takes g c = takes_joins g.R.Reader.left g.R.Reader.failures c.args.self.now c.loop-at.self c.fill.new.self c.args.reader.now c.loop-at.reader c.fill.new.reader c.loop-at.invariant.takes c.in_err-fill.ensures.takes

pub returns-then-branch-eq0-clause-takes : goal.returns-then-branch-eq0-clause-takes
returns-then-branch-eq0-clause-takes g c = takes_joins g.R.Reader.left g.R.Reader.failures c.args.self.now c.loop-at.self c.fill.new.self c.args.reader.now c.loop-at.reader c.fill.new.reader c.loop-at.invariant.takes c.in_ok-fill.ensures.takes

pub loop-at-preserved : goal.loop-at-preserved
loop-at-preserved g c =
    let t = c.in_ok-fill.ensures.takes in
    let none : line_end c.loop-at.self.unread ≡ None = sym (c.in-None.ensures.value ∙ ap line_end c.unread.ensures.value) in
    record {
      takes = takes_joins g.R.Reader.left g.R.Reader.failures c.args.self.now c.loop-at.self c.fill.new.self c.args.reader.now c.loop-at.reader c.fill.new.reader c.loop-at.invariant.takes t;
      within = omega (arith, c.in_ok-fill.ensures.count, ap length c.unread-seen.ensures.value);
      none = subst (λ (x : List ℕ). line_end (take (length x) c.fill.new.self.unread) ≡ None) (sym c.unread-seen.ensures.value)
          (subst (λ (y : List ℕ). line_end (take (length c.loop-at.self.unread) y) ≡ None) (sym t.unread) (none_before c.loop-at.self.unread t.bytes none));
    }
