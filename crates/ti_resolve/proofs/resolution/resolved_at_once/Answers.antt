use Rattle.ti_resolve.proofs.Once as Once
use Rattle.ti_resolve.proofs.resolution.resolved_at_once.Goals as goal

pub returns : goal.returns
returns c = Once.resolved_at_once
