use Rattle.ti_reports.proofs.SpelledFacts.{entry_fits}
use Rattle.ti_reports.proofs.spellings.string_of.Goals as goal

pub returns-clause-fits : goal.returns-clause-fits
returns-clause-fits c = entry_fits c.args.entry.now c.args.cap c.get_string.result c.names-names.ensures.entry c.get_string.ensures
