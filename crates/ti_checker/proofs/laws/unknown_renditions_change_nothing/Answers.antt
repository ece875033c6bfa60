use Rattle.ti_checker.proofs.Changes.{unknown_rendition, known_rendition}
use Rattle.ti_checker.proofs.laws.unknown_renditions_change_nothing.Goals as goal

pub returns : goal.returns
returns c = record { unknown = unknown_rendition; known = known_rendition }
