use Rattle.std.proofs.Common.{subst}
use Rattle.ti_sources.specs.Resolution.{FailsApart}
use Rattle.ti_sources.specs.declared.resolution.ApartFault.{ApartFault}
use Rattle.ti_surveys.proofs.files.entry_apart.Goals as goal

-- the fault is that of the entry that can't be read
pub returns-in-Err-Unread : goal.returns-in-Err-Unread
returns-in-Err-Unread c =
    subst (λ (f : ApartFault). FailsApart c.args.index.now.raws.now c.args.faults.now c.args.place f) c.in-Err-Unread.field-0-is c.in-Err-Unread.ensures.fault
