use Rattle.ti_sources.proofs.Readings.{lines_counted, lines_joined}
use Rattle.ti_sources.proofs.joined_laws.lines_are_joined.Goals as goal

pub returns-clause-joined : goal.returns-clause-joined
returns-clause-joined c = lines_joined

pub returns-clause-kept : goal.returns-clause-kept
returns-clause-kept c = lines_counted
