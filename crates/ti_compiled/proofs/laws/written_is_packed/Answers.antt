use Rattle.ti_compiled.proofs.Round as round
use Rattle.ti_compiled.proofs.laws.written_is_packed.Goals as goal

pub returns : goal.returns
returns c = round.written_is_packed
