use Rattle.std.proofs.Common.{sym, ◌∙◌}
use Rattle.ti_grades.proofs.Sets.{behind_first, none_in_nothing}
use Rattle.ti_grades.proofs.sequences.has_other_set.Goals as goal

pub loop-text-preserved : goal.loop-text-preserved
loop-text-preserved c =
    behind_first c.loop-text.text.now _ c.in-len1-up.len_at_least (sym c.begins_other_set.ensures ∙ c.if-begins_other_set.false) c.loop-text.invariant

pub returns : goal.returns
returns c = none_in_nothing c.loop-text.text.now _ c.in_default.len_below c.loop-text.invariant
