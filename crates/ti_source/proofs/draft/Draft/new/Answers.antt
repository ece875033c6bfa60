use Rattle.std.proofs.Common.{refl}
use Rattle.ti_source.proofs.Entries.{seen_none}
use Rattle.ti_source.proofs.draft.Draft.new.Goals as goal

pub invariant_of-result : goal.invariant_of-result
invariant_of-result c = rw c.new.ensures (seen_none _ refl)
