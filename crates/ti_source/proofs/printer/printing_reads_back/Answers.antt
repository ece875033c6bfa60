use Rattle.ti_source.proofs.Just as Just
use Rattle.ti_source.proofs.Lengths as Lengths
use Rattle.ti_source.proofs.printer.printing_reads_back.Goals as goal

pub returns-clause-read : goal.returns-clause-read
returns-clause-read c = Lengths.reads_back

pub returns-clause-just : goal.returns-clause-just
returns-clause-just c = Just.prints_just
