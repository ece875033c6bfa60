use Rattle.ti_sources.proofs.Origins.{bytes_kept}
use Rattle.ti_sources.proofs.joined_laws.bytes_are_kept.Goals as goal

pub returns : goal.returns
returns c = bytes_kept
