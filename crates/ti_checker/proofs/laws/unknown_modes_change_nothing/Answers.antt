use Rattle.ti_checker.proofs.Changes.{unknown_mode, known_mode}
use Rattle.ti_checker.proofs.laws.unknown_modes_change_nothing.Goals as goal

pub returns : goal.returns
returns c = record { unknown = unknown_mode; known = known_mode }
