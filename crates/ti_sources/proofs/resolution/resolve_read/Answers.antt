use Rattle.std.proofs.Common.{◌∙◌, ap, sym}
use Rattle.ti_sources.specs.Resolution.{IsUnread, first_fault}
use Rattle.ti_sources.proofs.Faultless.{names_fit_below}
use Rattle.ti_sources.proofs.resolution.resolve_read.Goals as goal

-- the first fault of the entries that the walk entered
pub returns-in-Some-clause-fault : goal.returns-in-Some-clause-fault
returns-in-Some-clause-fault c =
    IsUnread.Used c.in-Ok.entered.items c.requires.read c.in-Ok.ensures (sym (c.in-Some.ensures ∙ ap (first_fault c.args.faults.now) c.as_slice.ensures.value))

pub resolve_from-requires-clause-names : goal.resolve_from-requires-clause-names
resolve_from-requires-clause-names c = names_fit_below c.args.index.now.raws.now c.args.faults.now c.args.place c.requires.names c.requires.there c.requires.read
