use Rattle.std.proofs.Common.{◌∙◌, List, Bool, ap, rules}
use Rattle.ti_resolve.specs.Fills.{Filled, fields_of_all, take_fields}
use Rattle.ti_resolve.proofs.Taken.{filled_is}
use Rattle.ti_resolve.proofs.fill.filled.Goals as goal

pub returns : goal.returns
returns c =
    let fields = fields_of_all c.args.raws.now c.args.places.now in
    let from : List Bool → Filled = λ d. take_fields (record { entry = c.in_ok-entry.entry; decided = d }) fields in
    let next : Filled = record { entry = c.take_entries.new.entry; decided = c.take_entries.new.decided } in
    filled_is c.args.names.now fields c.in_ok-entry.entry c.in_ok-decided.decided.items next c.in_ok-entry.ensures.value (search rules) (c.in_ok-take_entries.ensures ∙ ap from c.as_mut_slice.ensures.value)
