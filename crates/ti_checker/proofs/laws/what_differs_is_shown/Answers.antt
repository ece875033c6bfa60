use Rattle.ti_checker.proofs.Doubts.{never_elsewhere, never_other, never_other_cells, never_other_modes}
use Rattle.ti_checker.proofs.laws.what_differs_is_shown.Goals as goal

pub returns : goal.returns
returns c = record { place = never_elsewhere; rendition = never_other; modes = never_other_modes; cells = never_other_cells }
