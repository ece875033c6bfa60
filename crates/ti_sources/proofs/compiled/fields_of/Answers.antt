use Rattle.std.proofs.Common.{◌∙◌, ◌++◌, List, ap, sym}
use Rattle.ti_caps.specs.Entry.{value_at}
use Rattle.ti_sources.specs.Compiled.{field_for}
use Rattle.ti_sources.proofs.Packed.{fields_more, fields_none}
use Rattle.ti_source.specs.declared.types.Field.{Field}
use Rattle.ti_sources.proofs.compiled.fields_of.Goals as goal

pub loop-place-init : goal.loop-place-init
loop-place-init c = c.new-fields.ensures ∙ sym (fields_none c.args.entry.now)

pub loop-place-preserved : goal.loop-place-preserved
loop-place-preserved c =
    c.in_ok-push_place.ensures
    ∙ (ap (λ (fields : List Field). fields ++ field_for c.loop-place.place (value_at c.args.entry.now c.loop-place.place)) c.loop-place.invariant
    ∙ sym (fields_more c.args.entry.now c.loop-place.place))
