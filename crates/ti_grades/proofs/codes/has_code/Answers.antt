use Rattle.std.proofs.Common.{sym, ◌∙◌}
use Rattle.ti_grades.proofs.BehindSigns.{next_code, no_code, shown_code}
use Rattle.ti_grades.proofs.codes.has_code.Goals as goal

pub loop-text-preserved : goal.loop-text-preserved
loop-text-preserved c =
    next_code c.args.kind c.loop-text.text.now _ _ c.in-len1-up.len_at_least (sym c.begins_code.ensures ∙ c.if-begins_code.false) c.after_code-text.ensures c.loop-text.invariant

pub returns-then-begins_code : goal.returns-then-begins_code
returns-then-begins_code c =
    shown_code c.args.kind c.loop-text.text.now _ c.in-len1-up.len_at_least (sym c.begins_code.ensures ∙ c.if-begins_code.true) c.loop-text.invariant

pub returns : goal.returns
returns c = no_code c.args.kind c.loop-text.text.now _ c.in_default.len_below c.loop-text.invariant
