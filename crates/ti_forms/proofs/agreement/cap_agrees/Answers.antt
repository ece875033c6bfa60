use Rattle.std.proofs.Common.{ℕ, sym, ap, ◌∙◌}
use Rattle.ti_caps.specs.Entry.{string_at}
use Rattle.ti_conforms.proofs.Matches.{none_wanted, all_wanted, not_agreed, on_ok, on_err}
use Rattle.ti_forms.proofs.agreement.cap_agrees.Goals as goal

pub returns-else-has_any-clause-agrees : goal.returns-else-has_any-clause-agrees
returns-else-has_any-clause-agrees g c = none_wanted c.args.size.rows c.args.size.cols c.args.entry.now (g.L.LinesByRow.line_of c.args.lines.now) c.args.first (sym c.is_checked.ensures ∙ c.if-not-is_checked.true) (c.has_any.ensures.none c.if-has_any.false)

pub returns-in-Some-clause-agrees : goal.returns-in-Some-clause-agrees
returns-in-Some-clause-agrees g c = on_ok c.all_agree.result
    (all_wanted c.args.size.rows c.args.size.cols c.args.entry.now (g.L.LinesByRow.line_of c.args.lines.now) c.args.first c.in-Some.string.now (sym c.is_checked.ensures ∙ c.if-not-is_checked.false) (c.in-Some.ensures ∙ ap (λ (n : ℕ). string_at c.args.entry.now n) c.cap.ensures))
    c.all_agree.ensures.sends

pub returns-in-Some-clause-fault : goal.returns-in-Some-clause-fault
returns-in-Some-clause-fault g c = on_err c.all_agree.result
    (not_agreed c.args.size.rows c.args.size.cols c.args.entry.now (g.L.LinesByRow.line_of c.args.lines.now) c.args.first c.in-Some.string.now (sym c.is_checked.ensures ∙ c.if-not-is_checked.false) (c.in-Some.ensures ∙ ap (λ (n : ℕ). string_at c.args.entry.now n) c.cap.ensures))
    c.all_agree.ensures.fault
