use Rattle.ti_compiled.proofs.Takes as takes
use Rattle.ti_compiled.proofs.laws.read_is_packed.Goals as goal

pub returns : goal.returns
returns c = takes.read_is_packed
