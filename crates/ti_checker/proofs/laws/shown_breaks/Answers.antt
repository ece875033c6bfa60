use Rattle.ti_checker.proofs.Displays.{shown_breaks}
use Rattle.ti_checker.proofs.laws.shown_breaks.Goals as goal

pub returns : goal.returns
returns c = shown_breaks
