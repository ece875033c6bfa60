use Rattle.ti_checker.proofs.Exclusions.{no_excludes_yes, too_long_excludes}
use Rattle.ti_checker.proofs.laws.no_excludes_yes.Goals as goal

pub returns : goal.returns
returns c = record { conforms = no_excludes_yes; too_long = too_long_excludes }
