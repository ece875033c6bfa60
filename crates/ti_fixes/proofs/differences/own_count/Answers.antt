use Rattle.std.proofs.Common.{List, ap, sym, ◌∙◌}
use Rattle.std.proofs.lemmas.List.{take_rest}
use Rattle.std.specs.List.{list_all}
use Rattle.ti_fixes.specs.Given.{is_use}
use Rattle.ti_source.specs.declared.types.Field.{Field}
use Rattle.ti_fixes.proofs.Changed.{count_next}
use Rattle.ti_fixes.proofs.differences.own_count.Goals as goal

-- one field more, behind which not all are uses
pub loop-at-preserved : goal.loop-at-preserved
loop-at-preserved c =
    count_next c.args.fields.now c.loop-at.at c.loop-at-test.true
    (sym (ap (λ (fields : List Field). list_all is_use fields) (take_rest c.args.fields.now c.loop-at.at)) ∙ (sym c.are_uses.ensures ∙ c.if-are_uses.false)) c.loop-at.invariant
