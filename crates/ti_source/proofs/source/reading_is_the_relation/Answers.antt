use Rattle.ti_source.proofs.Relations as Relations
use Rattle.ti_source.proofs.source.reading_is_the_relation.Goals as goal

pub returns-clause-read : goal.returns-clause-read
returns-clause-read c = Relations.read_is_related

pub returns-clause-related : goal.returns-clause-related
returns-clause-related c = Relations.related_is_read

pub returns-clause-fault : goal.returns-clause-fault
returns-clause-fault c = Relations.fault_has_none

pub returns-clause-first : goal.returns-clause-first
returns-clause-first c = Relations.fault_is_first
