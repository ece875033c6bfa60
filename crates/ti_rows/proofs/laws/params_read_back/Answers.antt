use Rattle.ti_rows.proofs.Readers.{finds_params}
use Rattle.ti_rows.proofs.laws.params_read_back.Goals as goal

pub returns-clause-finds : goal.returns-clause-finds
returns-clause-finds c = finds_params
