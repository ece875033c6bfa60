use Rattle.std.proofs.Common.{◌∙◌, None, Some, ap, arith, sym}
use Rattle.std.specs.Option.{option_or}
use Rattle.std.specs.Prelude.{if◌then◌else◌}
use Rattle.ti_resolve.specs.Uses.{is_name_in}
use Rattle.ti_resolve.proofs.Indices.{empty_index, named_more, none_named}
use Rattle.ti_resolve.proofs.search.places_of.Goals as goal

pub loop-place-init : goal.loop-place-init
loop-place-init c = λ name. empty_index c.new-places.result name c.new-places.ensures.empty ∙ sym (none_named name)

pub loop-place-preserved : goal.loop-place-preserved
loop-place-preserved c = λ name.
    c.in_ok-add_names.ensures name
    ∙ (ap (λ o. option_or o (if is_name_in c.names_of.result.now name then Some c.loop-place.place else None)) (c.loop-place.invariant name)
    ∙ sym (named_more c.args.raws.now c.loop-place.place c.names_of.result.now name (omega arith) c.names_of.ensures))
