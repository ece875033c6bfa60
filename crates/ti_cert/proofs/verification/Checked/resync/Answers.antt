use Rattle.std.proofs.Common.{subst}
use Rattle.ti_cert.specs.Table.{CheckedTable, table_of}
use Rattle.ti_cert.specs.Verified.{Resyncs}
use Rattle.ti_cert.proofs.Accepted.{resyncs}
use Rattle.ti_cert.proofs.verification.Checked.resync.Goals as goal

pub returns-clause-leads : goal.returns-clause-leads
returns-clause-leads c = subst (λ (t : CheckedTable). Resyncs (table_of t)) c.self.view_is (resyncs c.self.inside.table c.self.invariant.0)
