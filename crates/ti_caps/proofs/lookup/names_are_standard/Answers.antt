use Rattle.ti_caps.proofs.Standard.{counts_are_standard, names_are_standard}
use Rattle.ti_caps.proofs.lookup.names_are_standard.Goals as goal

pub returns-clause-counts : goal.returns-clause-counts
returns-clause-counts c = counts_are_standard

pub returns-clause-names : goal.returns-clause-names
returns-clause-names c = names_are_standard
