use Rattle.ti_compiled.proofs.Again as again
use Rattle.ti_compiled.proofs.laws.packed_is_read.Goals as goal

pub returns : goal.returns
returns c = again.packed_is_read
