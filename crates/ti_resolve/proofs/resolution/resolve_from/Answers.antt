use Rattle.std.proofs.Common.{◌∙◌, sym, ap, subst}
use Rattle.std.specs.Prelude.{IsTrue}
use Rattle.ti_caps.specs.Fits.{names_fit}
use Rattle.ti_resolve.specs.Fills.{fields_of_all, take_fields, start}
use Rattle.ti_resolve.proofs.Whole.{resolved_is}
use Rattle.ti_resolve.proofs.resolution.resolve_from.Goals as goal

pub filled-requires-clause-names : goal.filled-requires-clause-names
filled-requires-clause-names c =
    subst (λ names. IsTrue (names_fit names)) (sym c.names_of.ensures) c.requires.names

pub returns-clause-entry : goal.returns-clause-entry
returns-clause-entry c =
    resolved_is c.args.index.now.raws.now c.names_of.result.now c.in_ok-entered.entered.items c.args.root c.in_ok-entry.entry c.in_ok-entered.ensures c.names_of.ensures
    (c.in_ok-entry.ensures ∙ ap (λ places. (take_fields (start c.names_of.result.now) (fields_of_all c.args.index.now.raws.now places)).entry) c.as_slice.ensures.value)
