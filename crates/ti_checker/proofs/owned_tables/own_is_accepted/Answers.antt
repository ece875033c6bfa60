use Rattle.ti_checker.proofs.OwnTables.{own_is_accepted}
use Rattle.ti_checker.proofs.owned_tables.own_is_accepted.Goals as goal

pub returns : goal.returns
returns c = own_is_accepted
